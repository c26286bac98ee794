-- Sums over the numbers below k: a term is at most the sum, bounded terms bound it, and a change of one term changes it by as much.
-- Assumes nothing.
use mathlib.Core.Path.{◌≡◌, refl, sym, ap₂}
use mathlib.Core.Logic.{◌⊎◌, inl, inr}
use Prim.Native.Nat.{ℕ, zero, suc, ◌+◌, ◌*◌, ◌≤◌, ◌<◌}
use native.Mathlib.Nat.{not-suc-le-zero, le_refl}
use native.Mathlib.Omega.{arith}
use Rattle.words.proofs.Choice.{same_or}
use Rattle.wellformed.specs.WellFormed.{sum_below}

pub sum_term : (f : ℕ → ℕ) (k i : ℕ) → i < k → f i ≤ sum_below f k
unfolding sum_below
sum_term f zero i h = absurd (not-suc-le-zero h)
sum_term f (suc k) i h = go (sum_term f k i) (same_or i k)
  where
    go : (i < k → f i ≤ sum_below f k) → (i ≡ k) ⊎ (i ≡ k → ⊥) → f i ≤ sum_below f k + f k
    go below (inl e) = rw e (omega arith)
    go below (inr other) = omega (arith, below (omega arith))

pub sum_most : (f : ℕ → ℕ) (k b : ℕ) → ((i : ℕ) → i < k → f i ≤ b) → sum_below f k ≤ k * b
unfolding sum_below
sum_most f zero b most = omega arith
sum_most f (suc k) b most = omega (arith, sum_most f k b (λ i h. most i (omega arith)), most k (le_refl (suc k)))

pub sum_same : (f g : ℕ → ℕ) (k : ℕ) → ((i : ℕ) → i < k → g i ≡ f i) → sum_below g k ≡ sum_below f k
unfolding sum_below
sum_same f g zero same = refl
sum_same f g (suc k) same = ap₂ (λ (a b : ℕ). a + b) (sum_same f g k (λ i h. same i (omega arith))) (same k (le_refl (suc k)))

pub sum_change : (f g : ℕ → ℕ) (k l : ℕ) → l < k → ((i : ℕ) → i < k → (i ≡ l → ⊥) → g i ≡ f i)
    → sum_below g k + f l ≡ sum_below f k + g l
unfolding sum_below
sum_change f g zero l h same = absurd (not-suc-le-zero h)
sum_change f g (suc k) l h same = go (sum_change f g k l) (same_or l k)
  where
    go : (l < k → ((i : ℕ) → i < k → (i ≡ l → ⊥) → g i ≡ f i) → sum_below g k + f l ≡ sum_below f k + g l) → (l ≡ k) ⊎ (l ≡ k → ⊥)
        → sum_below g k + g k + f l ≡ sum_below f k + f k + g l
    go before (inl e) =
        let rest = sum_same f g k (λ i b. same i (omega arith) (λ d. omega arith)) in
        rw (e, rest) (omega arith)
    go before (inr other) =
        let old = before (omega arith) (λ i b. same i (omega arith)) in
        let last = same k (le_refl (suc k)) (λ d. other (sym d)) in
        omega arith

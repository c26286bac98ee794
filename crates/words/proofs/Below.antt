-- A test of every number below another, and the test at each. Assumes nothing.
use mathlib.Core.Path.{◌≡◌, refl, ap, ◌∙◌}
use mathlib.Core.Logic.{◌⊎◌, inl, inr}
use mathlib.Core.Bool.{Bool, true, ◌&&◌}
use Prim.Native.Nat.{ℕ, zero, suc, ◌<◌}
use native.Mathlib.Nat.{not-suc-le-zero, le_of_suc-le-suc, eq-or-lt_of_le, le_refl}
use native.Mathlib.Omega.{arith}
use Rattle.words.specs.Below.{all_below}
use Rattle.words.proofs.Choice.{and_left, and_right}

pub both : {a b : Bool} → a ≡ true → b ≡ true → a && b ≡ true
both p q = rw (p, q)

pub all_at : (p : ℕ → Bool) (k : ℕ) → all_below p k ≡ true → (i : ℕ) → i < k → p i ≡ true
unfolding all_below
all_at p zero e i h = absurd (not-suc-le-zero h)
all_at p (suc k) e i h = go (all_at p k (and_left (all_below p k) _ e) i) (eq-or-lt_of_le (le_of_suc-le-suc h))
  where
    go : (i < k → p i ≡ true) → (i ≡ k) ⊎ (i < k) → p i ≡ true
    go below (inl same) = ap p same ∙ and_right (all_below p k) _ e
    go below (inr less) = below less

pub all_from : (p : ℕ → Bool) (k : ℕ) → ((i : ℕ) → i < k → p i ≡ true) → all_below p k ≡ true
unfolding all_below
all_from p zero f = refl
all_from p (suc k) f = both (all_from p k (λ i h. f i (omega arith))) (f k (le_refl (suc k)))

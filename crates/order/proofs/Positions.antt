-- Positions without one of them, and a permutation without its first value. Assumes nothing.
use mathlib.Core.Path.{◌≡◌, refl, ap, sym, ◌∙◌}
use mathlib.Core.Logic.{◌≢◌}
use Prim.Native.Nat.{ℕ, zero, suc, ◌<◌}
use native.Mathlib.Omega.{arith}
use native.Mathlib.Nat.{suc_inj}
use native.Mathlib.Decide.{ℕ_discrete}
use Rattle.order.specs.Reordered.{Permutes}

-- The i-th position other than p, and back.
abbrev pub skip : ℕ → ℕ → ℕ
skip zero i = suc i
skip (suc p) zero = zero
skip (suc p) (suc i) = suc (skip p i)

abbrev unskip : ℕ → ℕ → ℕ
unskip zero zero = zero
unskip zero (suc j) = j
unskip (suc p) zero = zero
unskip (suc p) (suc j) = suc (unskip p j)

skip_unskip : (p j : ℕ) → j ≢ p → skip p (unskip p j) ≡ j
skip_unskip zero zero other = absurd (other refl)
skip_unskip zero (suc j) other = refl
skip_unskip (suc p) zero other = refl
skip_unskip (suc p) (suc j) other = ap suc (skip_unskip p j (λ e. other (ap suc e)))

pub skip_order : (p i j : ℕ) → skip p i < skip p j → i < j
skip_order zero i j h = omega arith
skip_order (suc p) zero zero h = omega arith
skip_order (suc p) zero (suc j) h = omega arith
skip_order (suc p) (suc i) zero h = omega arith
skip_order (suc p) (suc i) (suc j) h = let g : i < j = skip_order p i j (omega arith) in omega arith

skip_below : (p i n : ℕ) → p < suc n → skip p i < suc n → i < n
skip_below zero i n q h = omega arith
skip_below (suc p) zero n q h = omega arith
skip_below (suc p) (suc i) zero q h = omega arith
skip_below (suc p) (suc i) (suc n) q h = let g : i < n = skip_below p i n (omega arith) (omega arith) in omega arith

-- A permutation without its first value.
abbrev pub rest : (ℕ → ℕ) → ℕ → ℕ
rest π k = unskip (π 0) (π (suc k))

module _ {n : ℕ} {π : ℕ → ℕ} (P : Permutes (suc n) π) where
  pub skip_rest : (k : ℕ) → k < n → skip (π 0) (rest π k) ≡ π (suc k)
  skip_rest k h =
      skip_unskip (π 0) (π (suc k)) (λ e. let z : suc k ≡ 0 = P.once (suc k) 0 (omega arith) (omega arith) e in omega arith)

  pub rest_permutes : Permutes n (rest π)
  rest_permutes =
      record {
        below = λ k h. skip_below (π 0) (rest π k) n (P.below 0 (omega arith)) (rw (skip_rest k h) (P.below (suc k) (omega arith)));
        once = λ j k h g e. suc_inj (P.once (suc j) (suc k) (omega arith) (omega arith) (sym (skip_rest j h) ∙ ap (skip (π 0)) e ∙ skip_rest k g));
      }

-- Every position is the place of one.
pub onto : (n : ℕ) (π : ℕ → ℕ) → Permutes n π → (i : ℕ) → i < n → (k : ℕ) × (k < n) × (π k ≡ i)
onto zero π P i h = absurd (omega arith)
onto (suc n) π P i h = go (ℕ_discrete i (π 0)) (onto n (rest π) (rest_permutes P))
  where
    go : Dec (i ≡ π 0) → ((j : ℕ) → j < n → (k : ℕ) × (k < n) × (rest π k ≡ j)) → (k : ℕ) × (k < suc n) × (π k ≡ i)
    go (yes e) others = (0, omega arith, sym e)
    go (no other) others =
        let back : skip (π 0) (unskip (π 0) i) ≡ i = skip_unskip (π 0) i other in
        let (k, l, e) = others (unskip (π 0) i) (skip_below (π 0) (unskip (π 0) i) n (P.below 0 (omega arith)) (rw back h)) in
        (suc k, omega arith, sym (skip_rest P k l) ∙ ap (skip (π 0)) e ∙ back)

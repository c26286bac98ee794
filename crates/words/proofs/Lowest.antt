-- The lowest set bit of a number, over the width: where it stands, which is how many zeros there are below it, and the number without it,
-- `n & (n - 1)`. Halving n takes its lowest bit off both at once. Assumes nothing.
use mathlib.Core.Path.{◌≡◌, ap, ap₂, subst, ◌∙◌}
use mathlib.Core.Logic.{◌⊎◌, inl, inr}
use mathlib.Core.Bool.{true, false, not, ◌&&◌, and-true, and-false}
use Prim.Native.Nat.{ℕ, zero, suc, ◌+◌, ◌-◌, ◌*◌, ◌/◌, ◌%◌, ◌^◌, ◌<◌, min, suc-le-suc}
use native.Mathlib.Nat.{pow-succ', mod-lt, zero-lt-suc, lt_irrefl, zero-add, add-zero, min-zero}
use native.Mathlib.Omega.{arith}
use lib.Dec.{eqb, lit<, eqb-suc-zero, eqb-suc-suc}
use lib.Arith.{lt-one}
use lib.Bits.{bit_and, and_step, and_self}
use lib.Count.{ones, ones_step, count_trailing_zeros}
use Rattle.words.specs.Bit.{bit}
use Rattle.words.proofs.Choice.{zero_or_one}
use Rattle.words.proofs.Bits.{bit_zero, bit_suc}

-- n without its lowest set bit.
abbrev pub cleared : ℕ → ℕ
cleared n = bit_and n (n - 1)

-- An odd n loses its last bit.
pub cleared_odd : (n : ℕ) → n % 2 ≡ 1 → cleared n ≡ n / 2 * 2
cleared_odd n odd =
    let half : (n - 1) / 2 ≡ n / 2 = omega arith in
    let low : (n - 1) % 2 ≡ 0 = omega arith in
    and_step n (n - 1) ∙ ap₂ (λ (x y : ℕ). bit_and (n / 2) x * 2 + min (n % 2) y) half low
    ∙ ap₂ (λ (x y : ℕ). x * 2 + y) (and_self (n / 2)) (min-zero (n % 2)) ∙ add-zero (n / 2 * 2)

-- An even one loses what its half loses.
pub cleared_even : (n : ℕ) → 0 < n / 2 → n % 2 ≡ 0 → cleared n ≡ cleared (n / 2) * 2
cleared_even n some even =
    let half : (n - 1) / 2 ≡ n / 2 - 1 = omega arith in
    let low : (n - 1) % 2 ≡ 1 = omega arith in
    and_step n (n - 1) ∙ ap₂ (λ (x y : ℕ). bit_and (n / 2) x * 2 + min (n % 2) y) half low
    ∙ ap (λ (x : ℕ). cleared (n / 2) * 2 + min x 1) even ∙ add-zero (cleared (n / 2) * 2)

-- The last bit of a double is clear, the others are those of the number.
twice_last : (x : ℕ) → bit 0 (x * 2) ≡ false
twice_last x = let even : x * 2 % 2 ≡ 0 = omega arith in bit_zero (x * 2) ∙ ap (λ (n : ℕ). eqb n 1) even

twice_next : (i x : ℕ) → bit (suc i) (x * 2) ≡ bit i x
twice_next i x = let half : x * 2 / 2 ≡ x = omega arith in bit_suc i (x * 2) ∙ ap (bit i) half

twice_ones : (x : ℕ) → ones (x * 2) ≡ ones x
twice_ones x =
    let even : x * 2 % 2 ≡ 0 = omega arith in
    let half : x * 2 / 2 ≡ x = omega arith in
    ones_step (x * 2) ∙ ap₂ (λ (d n : ℕ). d + ones n) even half ∙ zero-add (ones x)

-- Its place: one above its half's for an even n, 0 for an odd one.
place_even : (w n : ℕ) → n % 2 ≡ 0 → count_trailing_zeros (suc w) n ≡ suc (count_trailing_zeros w (n / 2))
unfolding count_trailing_zeros
place_even w n even = rw even

place_odd : (w n : ℕ) → n % 2 ≡ 1 → count_trailing_zeros (suc w) n ≡ 0
unfolding count_trailing_zeros
place_odd w n odd = rw odd

-- A claim about a number that is not 0 goes by halving, over the width: it holds of odd numbers, and of an even one if it holds of the half.
module _ (P : ℕ → ℕ → Type 0) (at_odd : (w n : ℕ) → n % 2 ≡ 1 → P (suc w) n)
    (at_even : (w n : ℕ) → 0 < n / 2 → n % 2 ≡ 0 → P w (n / 2) → P (suc w) n) where
  by_halves : (w n : ℕ) → 0 < n → n < 2 ^ w → P w n
  by_halves zero n some fits = absurd (lt_irrefl 0 (subst (λ (x : ℕ). 0 < x) (lt-one fits) some))
  by_halves (suc w) n some fits =
      go (λ half. by_halves w (n / 2) half (omega (arith, pow-succ' 2 w))) (zero_or_one (n % 2) (mod-lt n (lit< tt)))
    where
      go : (0 < n / 2 → P w (n / 2)) → (n % 2 ≡ 0) ⊎ (n % 2 ≡ 1) → P (suc w) n
      go of-half (inl even) = let half : 0 < n / 2 = omega arith in at_even w n half even (of-half half)
      go of-half (inr odd) = at_odd w n odd

-- The lowest set bit is within the width, and it is set.
abbrev LowestSet : ℕ → ℕ → Type 0
LowestSet w n = (count_trailing_zeros w n < w) × (bit (count_trailing_zeros w n) n ≡ true)

pub lowest_set : (w n : ℕ) → 0 < n → n < 2 ^ w → LowestSet w n
lowest_set = by_halves LowestSet at_odd at_even
  where
    at_odd : (w n : ℕ) → n % 2 ≡ 1 → LowestSet (suc w) n
    at_odd w n odd = rw (place_odd w n odd) (zero-lt-suc w, bit_zero n ∙ ap (λ (x : ℕ). eqb x 1) odd)

    at_even : (w n : ℕ) → 0 < n / 2 → n % 2 ≡ 0 → LowestSet w (n / 2) → LowestSet (suc w) n
    at_even w n some even half =
        rw (place_even w n even) (suc-le-suc half.0, bit_suc (count_trailing_zeros w (n / 2)) n ∙ half.1)

-- Without it, every other bit is as it was.
abbrev OthersStay : ℕ → ℕ → Type 0
OthersStay w n = (i : ℕ) → bit i (cleared n) ≡ bit i n && not (eqb i (count_trailing_zeros w n))

pub cleared_bit : (w n : ℕ) → 0 < n → n < 2 ^ w → OthersStay w n
cleared_bit = by_halves OthersStay at_odd at_even
  where
    at_odd : (w n : ℕ) → n % 2 ≡ 1 → OthersStay (suc w) n
    at_odd w n odd zero = rw (cleared_odd n odd, twice_last, place_odd w n odd, and-false)
    at_odd w n odd (suc i) = rw (cleared_odd n odd, twice_next, bit_suc, place_odd w n odd, eqb-suc-zero, and-true)

    at_even : (w n : ℕ) → 0 < n / 2 → n % 2 ≡ 0 → OthersStay w (n / 2) → OthersStay (suc w) n
    at_even w n some even half zero = rw (cleared_even n some even, twice_last, bit_zero n, even)
    at_even w n some even half (suc i) =
        rw (cleared_even n some even, twice_next, bit_suc i n, place_even w n even, eqb-suc-suc) (half i)

-- And there is one set bit fewer.
abbrev OneFewer : ℕ → ℕ → Type 0
OneFewer w n = ones (cleared n) + 1 ≡ ones n

pub cleared_ones : (w n : ℕ) → 0 < n → n < 2 ^ w → OneFewer w n
cleared_ones = by_halves OneFewer at_odd at_even
  where
    at_odd : (w n : ℕ) → n % 2 ≡ 1 → OneFewer (suc w) n
    at_odd w n odd = rw (cleared_odd n odd, twice_ones) (omega (arith, ones_step n))

    at_even : (w n : ℕ) → 0 < n / 2 → n % 2 ≡ 0 → OneFewer w (n / 2) → OneFewer (suc w) n
    at_even w n some even half = rw (cleared_even n some even, twice_ones) (omega (arith, half, ones_step n))

-- The count of ones is one exactly if the number is a power of two, over the width; and the two other forms of that test: the list of
-- powers, and `n != 0 && n & (n - 1) == 0`. Halving n takes its lowest bit off all three at once. Assumes nothing.
use mathlib.Core.Path.{◌≡◌, refl, sym, ap, ◌∙◌}
use mathlib.Core.Logic.{◌⊎◌, inl, inr}
use mathlib.Core.Bool.{Bool, true, false, not, ◌&&◌, ◌||◌}
use Prim.Native.Nat.{ℕ, zero, suc, ◌*◌, ◌/◌, ◌%◌, ◌^◌, ◌<◌, suc-le-suc}
use native.Mathlib.Nat.{pow-succ', mod-lt, zero-lt-suc, not-suc-le-zero, one-mul, add-zero, eq-or-lt_of_le, le_of_suc-le-suc, pos_of_ne-zero}
use native.Mathlib.Omega.{arith}
use lib.Dec.{lit<, eqb}
use lib.Arith.{lt-one}
use lib.Pow.{pow_pos, pow-lt}
use lib.Count.{ones, ones_step, ones_cat}
use borrow.Author.Tests.{eq-eqb, ne_eqb, eqb-true}
use Rattle.words.specs.Bit.{bit, power_below}
use Rattle.words.proofs.Choice.{zero_or_one, same_or, same_test}
use Rattle.words.proofs.Bits.{bit_pow, bit_ext}
use Rattle.words.proofs.Lowest.{cleared, cleared_odd, cleared_even}

pub ones_none : (w n : ℕ) → n < 2 ^ w → ones n ≡ 0 → n ≡ 0
ones_none zero n h e = lt-one h
ones_none (suc w) n h e =
    let s = ones_step n in
    let high : n / 2 ≡ 0 = ones_none w (n / 2) (omega (arith, pow-succ' 2 w)) (omega arith) in
    omega arith

pub none_ones : ones 0 ≡ 0
unfolding ones
none_ones = refl

-- One bit set: a power of two below the width.
pub one_pow : (w n : ℕ) → n < 2 ^ w → ones n ≡ 1 → (i : ℕ) × (i < w) × (n ≡ 2 ^ i)
one_pow zero n h e = let z = ap ones (lt-one h) in absurd (omega (arith, none_ones))
one_pow (suc w) n h e = go (λ q. one_pow w (n / 2) (omega (arith, pow-succ' 2 w)) q) (zero_or_one (n % 2) (mod-lt n (lit< tt)))
  where
    go : (ones (n / 2) ≡ 1 → (i : ℕ) × (i < w) × (n / 2 ≡ 2 ^ i)) → (n % 2 ≡ 0) ⊎ (n % 2 ≡ 1) → (i : ℕ) × (i < suc w) × (n ≡ 2 ^ i)
    go rest (inl z) =
        let s = ones_step n in
        let r = rest (omega arith) in
        (suc r.0, suc-le-suc r.1, omega (arith, pow-succ' 2 r.0, r.2))
    go rest (inr o) =
        let s = ones_step n in
        let high : n / 2 ≡ 0 = ones_none w (n / 2) (omega (arith, pow-succ' 2 w)) (omega arith) in
        (0, zero-lt-suc w, omega arith)

pub pow_one : (i : ℕ) → ones (2 ^ i) ≡ 1
unfolding ones
pow_one i = ap ones (sym (add-zero (1 * 2 ^ i) ∙ one-mul (2 ^ i))) ∙ ones_cat i 1 0 (pow_pos i)

-- One bit is set, and no other.
pub record OnlyBit (w n : ℕ) : Type 0 where
  pub at : ℕ
  pub below : at < w
  pub bits : (j : ℕ) → bit j n ≡ eqb j at

pub one_only : (w n : ℕ) → n < 2 ^ w → ones n ≡ 1 → OnlyBit w n
one_only w n h e =
    let r = one_pow w n h e in
    record { at = r.0; below = r.1; bits = λ j. ap (bit j) r.2 ∙ bit_pow j r.0 }

pub only_one : (w n : ℕ) → n < 2 ^ w → OnlyBit w n → ones n ≡ 1
only_one w n h o =
    ap ones (bit_ext w n (2 ^ o.at) h (pow-lt o.below) (λ j l. o.bits j ∙ sym (bit_pow j o.at))) ∙ pow_one o.at

-- A power below the width is in the list of powers.
pub power_listed : (w i : ℕ) → i < w → power_below w (2 ^ i) ≡ true
unfolding power_below
power_listed zero i h = absurd (not-suc-le-zero h)
power_listed (suc w) i h = go (λ l. power_listed w i l) (eq-or-lt_of_le (le_of_suc-le-suc h))
  where
    or_right : (a b : Bool) → b ≡ true → a || b ≡ true
    or_right true b e = refl
    or_right false b e = e

    go : (i < w → power_below w (2 ^ i) ≡ true) → (i ≡ w) ⊎ (i < w) → eqb (2 ^ i) (2 ^ w) || power_below w (2 ^ i) ≡ true
    go ih (inl e) = rw (eq-eqb (2 ^ i) (2 ^ w) (ap (λ (x : ℕ). 2 ^ x) e))
    go ih (inr l) = or_right (eqb (2 ^ i) (2 ^ w)) (power_below w (2 ^ i)) (ih l)

-- What is in the list of powers is one.
pub listed_power : (w n : ℕ) → power_below w n ≡ true → ones n ≡ 1
unfolding power_below
listed_power zero n e = let o : ◌≡◌ {A = ℕ} 0 1 = cc in absurd (omega arith)
listed_power (suc w) n e = go (λ r. listed_power w n r) (eqb n (2 ^ w)) refl e
  where
    go : (power_below w n ≡ true → ones n ≡ 1) → (t : Bool) → eqb n (2 ^ w) ≡ t → t || power_below w n ≡ true → ones n ≡ 1
    go ih true q _ = ap ones (eqb-true n (2 ^ w) q) ∙ pow_one w
    go ih false q r = ih r

-- The list of powers is the count of ones.
pub ones_listed : (w n : ℕ) → n < 2 ^ w → eqb (ones n) 1 ≡ power_below w n
ones_listed w n h =
    same_test (eqb (ones n) 1) (power_below w n)
    (λ e. let r = one_pow w n h (eqb-true (ones n) 1 e) in ap (power_below w) r.2 ∙ power_listed w r.0 r.1)
    (λ e. eq-eqb (ones n) 1 (listed_power w n e))

-- Upstream's test: n is not 0, and no bit of n is left in `n & (n - 1)`.
abbrev lowest_alone : ℕ → Bool
lowest_alone n = not (eqb n 0) && eqb (cleared n) 0

double_zero : (x : ℕ) → eqb (x * 2) 0 ≡ eqb x 0
double_zero zero = refl
double_zero (suc x) = ne_eqb (suc x * 2) 0 (λ e. omega arith) ∙ sym (ne_eqb (suc x) 0 (λ e. omega arith))

-- An even n: both tests are those of its half.
lowest_even : (n : ℕ) → n % 2 ≡ 0 → lowest_alone n ≡ lowest_alone (n / 2)
lowest_even n even = go (same_or (n / 2) 0)
  where
    go : (n / 2 ≡ 0) ⊎ (n / 2 ≡ 0 → ⊥) → lowest_alone n ≡ lowest_alone (n / 2)
    go (inl z) = let e : n ≡ 0 = omega arith in ap lowest_alone e ∙ sym (ap lowest_alone z)
    go (inr f) =
        rw (ne_eqb n 0 (λ q. f (omega arith)), ne_eqb (n / 2) 0 f, cleared_even n (pos_of_ne-zero f) even) (double_zero (cleared (n / 2)))

-- An odd n: it is 1.
lowest_odd : (n : ℕ) → n % 2 ≡ 1 → lowest_alone n ≡ eqb (n / 2) 0
lowest_odd n odd = rw (ne_eqb n 0 (λ q. omega arith), cleared_odd n odd) (double_zero (n / 2))

-- That test is the count of ones.
pub ones_lowest : (w n : ℕ) → n < 2 ^ w → lowest_alone n ≡ eqb (ones n) 1
ones_lowest zero n h = ap lowest_alone (lt-one h) ∙ sym (ap (λ (x : ℕ). eqb (ones x) 1) (lt-one h) ∙ ap (λ (x : ℕ). eqb x 1) none_ones)
ones_lowest (suc w) n h = go (ones_lowest w (n / 2) (omega (arith, pow-succ' 2 w))) (zero_or_one (n % 2) (mod-lt n (lit< tt)))
  where
    go : lowest_alone (n / 2) ≡ eqb (ones (n / 2)) 1 → (n % 2 ≡ 0) ⊎ (n % 2 ≡ 1) → lowest_alone n ≡ eqb (ones n) 1
    go ih (inl even) =
        let count : ones n ≡ ones (n / 2) = omega (arith, ones_step n) in
        lowest_even n even ∙ ih ∙ ap (λ (x : ℕ). eqb x 1) (sym count)
    go ih (inr odd) =
        lowest_odd n odd
        ∙ same_test (eqb (n / 2) 0) (eqb (ones n) 1)
        (λ e. let z = ap ones (eqb-true (n / 2) 0 e) in eq-eqb (ones n) 1 (omega (arith, ones_step n, none_ones)))
        (λ e. let c = eqb-true (ones n) 1 e in eq-eqb (n / 2) 0 (ones_none w (n / 2) (omega (arith, pow-succ' 2 w)) (omega (arith, ones_step n))))

-- Single bits of or, and, not, shift, remainder and power, over the bit's number and the width; numbers with the same bits are equal.
-- An operation that halves with its operands works on each bit apart (`each`): what it does to the lowest bit it does to all.
-- Assumes nothing.
use mathlib.Core.Path.{◌≡◌, sym, ap, ap₂, ◌∙◌}
use mathlib.Core.Logic.{◌⊎◌, inl, inr}
use mathlib.Core.Bool.{Bool, true, false, not, ◌&&◌, ◌||◌}
use Prim.Native.Nat.{ℕ, zero, suc, ◌+◌, ◌-◌, ◌*◌, ◌/◌, ◌%◌, ◌^◌, ◌≤◌, ◌<◌, min, max, suc-le-suc}
use native.Mathlib.Nat.{
  div-one,
  div-div-eq-div-mul,
  pow-succ',
  mod-lt,
  zero-lt-suc,
  not-suc-le-zero,
  le_of_suc-le-suc,
  div-eq_of_lt,
  lt_of_lt_of_le,
  mul-div_left,
  sub-zero,
}
use native.Mathlib.Omega.{arith}
use lib.Dec.{eqb, lit<, eqb-zero-suc, eqb-suc-zero, eqb-suc-suc}
use lib.Arith.{lt-one}
use lib.Pow.{pow_pos, pow_mono, shr-shr}
use lib.Bits.{bit_and, bit_or, and_step, or_step, and_shr, or_shr}
use Rattle.words.specs.Bit.{bit, bit_not}
use Rattle.words.proofs.Choice.{zero_or_one}

pub bit_zero : (n : ℕ) → bit 0 n ≡ eqb (n % 2) 1
unfolding bit
bit_zero n = ap (λ (x : ℕ). eqb (x % 2) 1) (div-one n)

pub bit_suc : (i n : ℕ) → bit (suc i) n ≡ bit i (n / 2)
unfolding bit
bit_suc i n = ap (λ (x : ℕ). eqb (x % 2) 1) (ap (λ (p : ℕ). n / p) (pow-succ' 2 i) ∙ sym (div-div-eq-div-mul n 2 (2 ^ i)))

module _ (op : ℕ → ℕ → ℕ) (g : Bool → Bool → Bool) (half : (a b : ℕ) → op a b / 2 ≡ op (a / 2) (b / 2))
    (lowest : (a b : ℕ) → eqb (op a b % 2) 1 ≡ g (eqb (a % 2) 1) (eqb (b % 2) 1)) where
  each : (i a b : ℕ) → bit i (op a b) ≡ g (bit i a) (bit i b)
  each zero a b = bit_zero (op a b) ∙ lowest a b ∙ sym (ap₂ g (bit_zero a) (bit_zero b))
  each (suc i) a b =
      bit_suc i (op a b) ∙ ap (bit i) (half a b) ∙ each i (a / 2) (b / 2) ∙ sym (ap₂ g (bit_suc i a) (bit_suc i b))

-- An operation's lowest bit, from what it does to the four pairs of lowest bits.
module _ (f : ℕ → ℕ → ℕ) (g : Bool → Bool → Bool) (at : (x y : ℕ) → (x ≡ 0) ⊎ (x ≡ 1) → (y ≡ 0) ⊎ (y ≡ 1) → eqb (f x y % 2) 1 ≡ g (eqb x 1) (eqb y 1)) where
  lowest_of : (high a b : ℕ) → eqb ((high * 2 + f (a % 2) (b % 2)) % 2) 1 ≡ g (eqb (a % 2) 1) (eqb (b % 2) 1)
  lowest_of high a b =
      ap (λ (x : ℕ). eqb x 1) (drop_high high (f (a % 2) (b % 2)))
      ∙ at (a % 2) (b % 2) (zero_or_one (a % 2) (mod-lt a (lit< tt))) (zero_or_one (b % 2) (mod-lt b (lit< tt)))
    where
      drop_high : (q r : ℕ) → (q * 2 + r) % 2 ≡ r % 2
      drop_high q r = omega arith

max_bit : (x y : ℕ) → (x ≡ 0) ⊎ (x ≡ 1) → (y ≡ 0) ⊎ (y ≡ 1) → eqb (max x y % 2) 1 ≡ eqb x 1 || eqb y 1
max_bit x y (inl p) (inl q) = rw (p, q)
max_bit x y (inl p) (inr q) = rw (p, q)
max_bit x y (inr p) (inl q) = rw (p, q)
max_bit x y (inr p) (inr q) = rw (p, q)

min_bit : (x y : ℕ) → (x ≡ 0) ⊎ (x ≡ 1) → (y ≡ 0) ⊎ (y ≡ 1) → eqb (min x y % 2) 1 ≡ eqb x 1 && eqb y 1
min_bit x y (inl p) (inl q) = rw (p, q)
min_bit x y (inl p) (inr q) = rw (p, q)
min_bit x y (inr p) (inl q) = rw (p, q)
min_bit x y (inr p) (inr q) = rw (p, q)

pub bit_of_or : (i a b : ℕ) → bit i (bit_or a b) ≡ bit i a || bit i b
bit_of_or =
    each bit_or (λ x y. x || y) (λ a b. or_shr a b 1) (λ a b.
    ap (λ (n : ℕ). eqb (n % 2) 1) (or_step a b) ∙ lowest_of max (λ x y. x || y) max_bit (bit_or (a / 2) (b / 2)) a b)

pub bit_of_and : (i a b : ℕ) → bit i (bit_and a b) ≡ bit i a && bit i b
bit_of_and =
    each bit_and (λ x y. x && y) (λ a b. and_shr a b 1) (λ a b.
    ap (λ (n : ℕ). eqb (n % 2) 1) (and_step a b) ∙ lowest_of min (λ x y. x && y) min_bit (bit_and (a / 2) (b / 2)) a b)

-- Above a number's length its bits are clear.
pub bit_above : (i n : ℕ) → n < 2 ^ i → bit i n ≡ false
unfolding bit
bit_above i n h = ap (λ (x : ℕ). eqb (x % 2) 1) (div-eq_of_lt h)

pub bit_above_width : (w i n : ℕ) → n < 2 ^ w → w ≤ i → bit i n ≡ false
bit_above_width w i n h l = bit_above i n (lt_of_lt_of_le h (pow_mono l))

turned : (x : ℕ) → (x ≡ 0) ⊎ (x ≡ 1) → eqb (1 - x) 1 ≡ not (eqb x 1)
turned x (inl p) = rw p
turned x (inr p) = rw p

-- Within the width, the bits of `!n` are those of n turned over.
pub bit_of_not : (w i n : ℕ) → i < w → n < 2 ^ w → bit i (bit_not w n) ≡ not (bit i n)
bit_of_not zero i n h k = absurd (not-suc-le-zero h)
bit_of_not (suc w) zero n h k =
    let e : bit_not (suc w) n % 2 ≡ 1 - n % 2 = (let p = pow-succ' 2 w in omega (arith, p)) in
    bit_zero (bit_not (suc w) n) ∙ ap (λ (x : ℕ). eqb x 1) e ∙ turned (n % 2) (zero_or_one (n % 2) (mod-lt n (lit< tt)))
    ∙ ap not (sym (bit_zero n))
bit_of_not (suc w) (suc i) n h k =
    let p = pow-succ' 2 w in
    let e : bit_not (suc w) n / 2 ≡ bit_not w (n / 2) = omega (arith, p) in
    bit_suc i (bit_not (suc w) n) ∙ ap (bit i) e ∙ bit_of_not w i (n / 2) (le_of_suc-le-suc h) (omega (arith, p))
    ∙ ap not (sym (bit_suc i n))

-- One less than a power of two has every bit below it.
pub bit_ones : (k i : ℕ) → i < k → bit i (2 ^ k - 1) ≡ true
bit_ones k i h = ap (bit i) (sym (sub-zero (2 ^ k - 1))) ∙ bit_of_not k i 0 h (pow_pos k) ∙ ap not (bit_above i 0 (pow_pos i))

-- A power of two has its own bit and no other.
pub bit_pow : (i j : ℕ) → bit i (2 ^ j) ≡ eqb i j
bit_pow zero zero = bit_zero 1
bit_pow zero (suc j) =
    let e : 2 ^ suc j % 2 ≡ 0 = omega (arith, pow-succ' 2 j) in
    bit_zero (2 ^ suc j) ∙ ap (λ (x : ℕ). eqb x 1) e ∙ sym (eqb-zero-suc j)
bit_pow (suc i) zero = bit_suc i 1 ∙ bit_above i 0 (pow_pos i) ∙ sym (eqb-suc-zero i)
bit_pow (suc i) (suc j) =
    let e : 2 ^ suc j / 2 ≡ 2 ^ j = omega (arith, pow-succ' 2 j) in
    bit_suc i (2 ^ suc j) ∙ ap (bit i) e ∙ bit_pow i j ∙ sym (eqb-suc-suc i j)

-- A shift to the right by a moves bit a + i to i.
pub bit_shr : (a i n : ℕ) → bit i (n / 2 ^ a) ≡ bit (a + i) n
unfolding bit
bit_shr a i n = ap (λ (x : ℕ). eqb (x % 2) 1) (shr-shr n a i)

-- A shift to the left by a moves bit i to a + i.
pub bit_shl : (a i n : ℕ) → bit (a + i) (n * 2 ^ a) ≡ bit i n
bit_shl a i n = sym (bit_shr a i (n * 2 ^ a)) ∙ ap (bit i) (mul-div_left n (pow_pos a))

-- Two numbers of w bits with the same bits are equal.
pub bit_ext : (w a b : ℕ) → a < 2 ^ w → b < 2 ^ w → ((i : ℕ) → i < w → bit i a ≡ bit i b) → a ≡ b
bit_ext zero a b ha hb e = lt-one ha ∙ sym (lt-one hb)
bit_ext (suc w) a b ha hb e =
    let p = pow-succ' 2 w in
    let high : a / 2 ≡ b / 2 = bit_ext w (a / 2) (b / 2) (omega (arith, p)) (omega (arith, p))
    (λ i h. sym (bit_suc i a) ∙ e (suc i) (suc-le-suc h) ∙ bit_suc i b) in
    let low : a % 2 ≡ b % 2 = same (a % 2) (b % 2) (zero_or_one (a % 2) (mod-lt a (lit< tt))) (zero_or_one (b % 2) (mod-lt b (lit< tt)))
    (sym (bit_zero a) ∙ e 0 (zero-lt-suc w) ∙ bit_zero b) in
    omega arith
  where
    same : (x y : ℕ) → (x ≡ 0) ⊎ (x ≡ 1) → (y ≡ 0) ⊎ (y ≡ 1) → eqb x 1 ≡ eqb y 1 → x ≡ y
    same x y (inl p) (inl q) e = p ∙ sym q
    same x y (inr p) (inr q) e = p ∙ sym q
    same x y (inl p) (inr q) e =
        let z : false ≡ true = sym (ap (λ (n : ℕ). eqb n 1) p) ∙ e ∙ ap (λ (n : ℕ). eqb n 1) q in
        let o : ◌≡◌ {A = ℕ} 0 1 = cc in
        omega arith
    same x y (inr p) (inl q) e =
        let z : true ≡ false = sym (ap (λ (n : ℕ). eqb n 1) p) ∙ e ∙ ap (λ (n : ℕ). eqb n 1) q in
        let o : ◌≡◌ {A = ℕ} 0 1 = cc in
        omega arith

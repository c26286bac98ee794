-- What the code's tests on masks say of bits, at a width of w bits: `1 << i`, a flag `<< i`, `m & (1 << i)` against 0, `m >> k` against 0.
-- Assumes nothing.
use mathlib.Core.Path.{◌≡◌, sym, ap, ap₂, ◌∙◌}
use mathlib.Core.Logic.{◌⊎◌, inl, inr}
use mathlib.Core.Bool.{Bool, true, false, not, ◌&&◌}
use Prim.Native.Nat.{ℕ, zero, suc, ◌+◌, ◌*◌, ◌/◌, ◌%◌, ◌^◌, ◌≤◌, ◌<◌, min}
use native.Mathlib.Nat.{
  div-one,
  div-div-eq-div-mul,
  pow-succ',
  mod-lt,
  one-mul,
  zero-mul,
  mul-one,
  mul_assoc,
  mul_comm,
  add-zero,
  min-zero,
  mod-eq_of_lt,
  div-eq_of_lt,
  div-lt_iff_lt-mul,
}
use native.Mathlib.Omega.{arith}
use lib.Dec.{eqb, ltb, lit<}
use lib.Pow.{pow_pos, pow-lt}
use lib.Bits.{bit_and, and_step, and_mask}
use borrow.Author.Tests.{eq-eqb, eqb-true, ne_eqb, lt-ltb, le-ltb}
use mir.Val.{bool_byte}
use Rattle.words.specs.Bit.{bit}
use Rattle.words.proofs.Choice.{below_or, zero_or_one}
use Rattle.words.proofs.Bits.{bit_pow, bit_above}

-- `m & 2 ^ i` keeps bit i where it stands.
and_pow : (i m : ℕ) → bit_and m (2 ^ i) ≡ m / 2 ^ i % 2 * 2 ^ i
and_pow zero m = and_mask m 1 ∙ sym (mul-one (m / 1 % 2) ∙ ap (λ (x : ℕ). x % 2) (div-one m))
and_pow (suc i) m =
    let p = pow-succ' 2 i in
    let half : 2 ^ suc i / 2 ≡ 2 ^ i = omega (arith, p) in
    let even : 2 ^ suc i % 2 ≡ 0 = omega (arith, p) in
    and_step m (2 ^ suc i) ∙ ap₂ (λ (x y : ℕ). bit_and (m / 2) x * 2 + min (m % 2) y) half even
    ∙ ap₂ (λ (x y : ℕ). x * 2 + y) (and_pow i (m / 2)) (min-zero (m % 2)) ∙ add-zero (m / 2 / 2 ^ i % 2 * 2 ^ i * 2)
    ∙ mul_assoc (m / 2 / 2 ^ i % 2) (2 ^ i) 2
    ∙ ap₂ (λ (x y : ℕ). x % 2 * y) (div-div-eq-div-mul m 2 (2 ^ i) ∙ ap (λ (x : ℕ). m / x) (sym p)) (mul_comm (2 ^ i) 2 ∙ sym p)

-- The test `m & 2 ^ i != 0` asks for bit i.
pub test_bit : (i m : ℕ) → not (eqb (bit_and m (2 ^ i)) 0) ≡ bit i m
unfolding bit
test_bit i m = ap (λ (x : ℕ). not (eqb x 0)) (and_pow i m) ∙ go (m / 2 ^ i % 2) (zero_or_one (m / 2 ^ i % 2) (mod-lt (m / 2 ^ i) (lit< tt)))
  where
    go : (x : ℕ) → (x ≡ 0) ⊎ (x ≡ 1) → not (eqb (x * 2 ^ i) 0) ≡ eqb x 1
    go x (inl p) = rw (p, zero-mul)
    go x (inr p) = rw (p, ne_eqb (1 * 2 ^ i) 0 (λ e. omega (arith, pow_pos i, one-mul (2 ^ i))))

-- Of a number that has bit i, `m & 2 ^ i` is that bit.
pub and_set : (i m : ℕ) → bit i m ≡ true → bit_and m (2 ^ i) ≡ 2 ^ i
unfolding bit
and_set i m e = and_pow i m ∙ ap (λ (x : ℕ). x * 2 ^ i) (eqb-true (m / 2 ^ i % 2) 1 e) ∙ one-mul (2 ^ i)

-- `1 << i`.
pub shl_one : (w i : ℕ) → i < w → (1 * 2 ^ i) % 2 ^ w ≡ 2 ^ i
shl_one w i h = ap (λ (x : ℕ). x % 2 ^ w) (one-mul (2 ^ i)) ∙ mod-eq_of_lt (pow-lt h)

-- `flag << k` has bit k if the flag is set, and no other.
pub shl_flag : (w k : ℕ) (flag : Bool) (i : ℕ) → k < w → bit i ((bool_byte flag * 2 ^ k) % 2 ^ w) ≡ flag && eqb i k
shl_flag w k true i h = ap (bit i) (shl_one w k h) ∙ bit_pow i k
shl_flag w k false i h = ap (λ (x : ℕ). bit i (x % 2 ^ w)) (zero-mul (2 ^ k)) ∙ ap (bit i) (mod-eq_of_lt (pow_pos w)) ∙ bit_above i 0 (pow_pos i)

below_top : (k m : ℕ) → m / 2 ^ k ≡ 0 → m < 2 ^ k
below_top k m e =
    let l : m < 1 * 2 ^ k = (div-lt_iff_lt-mul {k = 2 ^ k} {x = m} {y = 1} (pow_pos k)).0 (omega arith) in
    rw one-mul at l

-- The test `m >> k == 0` asks whether m is below 2 ^ k.
pub top_test : (k m : ℕ) → eqb (m / 2 ^ k) 0 ≡ ltb m (2 ^ k)
top_test k m = go (below_or m (2 ^ k))
  where
    go : (m < 2 ^ k) ⊎ (2 ^ k ≤ m) → eqb (m / 2 ^ k) 0 ≡ ltb m (2 ^ k)
    go (inl h) = eq-eqb (m / 2 ^ k) 0 (div-eq_of_lt h) ∙ sym (lt-ltb m (2 ^ k) h)
    go (inr h) = ne_eqb (m / 2 ^ k) 0 (λ e. omega (arith, below_top k m e)) ∙ sym (le-ltb m (2 ^ k) h)

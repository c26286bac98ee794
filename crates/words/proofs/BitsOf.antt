-- The number with given bits: its bits are those, and it is the only such number. Assumes nothing.
use mathlib.Core.Path.{◌≡◌, refl, sym, ap, ◌∙◌}
use mathlib.Core.Logic.{◌⊎◌, inl, inr}
use mathlib.Core.Bool.{Bool, true, false, ◌&&◌, ◌||◌, cond, and-true, and-false, or-false}
use Prim.Native.Nat.{ℕ, zero, suc, ◌+◌, ◌^◌, ◌≤◌, ◌<◌}
use native.Mathlib.Nat.{pow-succ', one-mul, zero-add, not-suc-le-zero, eq-or-lt_of_le, le_of_suc-le-suc}
use native.Mathlib.Omega.{arith}
use lib.Bits.{bit_or, or_shifted_r}
use lib.Dec.{eqb, ltb}
use borrow.Author.Tests.{lt-ltb, le-ltb, eq-eqb, ne_eqb}
use Rattle.words.specs.Bit.{bit, bits_of}
use Rattle.words.proofs.Choice.{below_or}
use Rattle.words.proofs.Bits.{bit_of_or, bit_pow, bit_above, bit_above_width, bit_ext}

pub bits_of_lt : (f : ℕ → Bool) (k : ℕ) → bits_of f k < 2 ^ k
unfolding bits_of
bits_of_lt f zero = omega arith
bits_of_lt f (suc k) = go (f k) (bits_of_lt f k)
  where
    go : (b : Bool) → bits_of f k < 2 ^ k → cond b (2 ^ k) 0 + bits_of f k < 2 ^ suc k
    go true h = omega (arith, pow-succ' 2 k)
    go false h = omega (arith, pow-succ' 2 k)

bits_of_put : (f : ℕ → Bool) (k : ℕ) → f k ≡ true → bit_or (bits_of f k) (2 ^ k) ≡ bits_of f (suc k)
unfolding bits_of
bits_of_put f k e =
    ap (bit_or (bits_of f k)) (sym (one-mul (2 ^ k))) ∙ or_shifted_r 1 k (bits_of f k) (bits_of_lt f k)
    ∙ ap (λ (x : ℕ). x + bits_of f k) (one-mul (2 ^ k)) ∙ ap (λ (b : Bool). cond b (2 ^ k) 0 + bits_of f k) (sym e)

bits_of_leave : (f : ℕ → Bool) (k : ℕ) → f k ≡ false → bits_of f k ≡ bits_of f (suc k)
unfolding bits_of
bits_of_leave f k e = sym (ap (λ (b : Bool). cond b (2 ^ k) 0 + bits_of f k) e ∙ zero-add (bits_of f k))

one_more : (f : ℕ → Bool) (k i : ℕ) → bit i (bits_of f (suc k)) ≡ bit i (bits_of f k) || (f k && eqb i k)
one_more f k i = go (f k) refl
  where
    go : (b : Bool) → f k ≡ b → bit i (bits_of f (suc k)) ≡ bit i (bits_of f k) || (b && eqb i k)
    go true e = ap (bit i) (sym (bits_of_put f k e)) ∙ bit_of_or i (bits_of f k) (2 ^ k) ∙ ap (λ (b : Bool). bit i (bits_of f k) || b) (bit_pow i k)
    go false e = ap (bit i) (sym (bits_of_leave f k e)) ∙ sym (or-false (bit i (bits_of f k)))

within : (f : ℕ → Bool) (k i : ℕ) → i < k → bit i (bits_of f k) ≡ f i
within f zero i h = absurd (not-suc-le-zero h)
within f (suc k) i h = one_more f k i ∙ go (λ l. within f k i l) (eq-or-lt_of_le (le_of_suc-le-suc h))
  where
    go : (i < k → bit i (bits_of f k) ≡ f i) → (i ≡ k) ⊎ (i < k) → bit i (bits_of f k) || (f k && eqb i k) ≡ f i
    go ih (inl e) = rw (eq-eqb i k e, and-true, e, bit_above k (bits_of f k) (bits_of_lt f k))
    go ih (inr l) = rw (ih l, ne_eqb i k (λ e. omega arith), and-false, or-false)

-- Bit i is set exactly when i is below k and f names it.
pub bit_bits_of : (f : ℕ → Bool) (k i : ℕ) → bit i (bits_of f k) ≡ ltb i k && f i
bit_bits_of f k i = go (below_or i k)
  where
    go : (i < k) ⊎ (k ≤ i) → bit i (bits_of f k) ≡ ltb i k && f i
    go (inl h) = within f k i h ∙ ap (λ (b : Bool). b && f i) (sym (lt-ltb i k h))
    go (inr h) = bit_above_width k i (bits_of f k) (bits_of_lt f k) h ∙ ap (λ (b : Bool). b && f i) (sym (le-ltb i k h))

-- No other number below 2 ^ k has those bits.
pub bits_of_only : (f : ℕ → Bool) (k n : ℕ) → n < 2 ^ k → ((i : ℕ) → i < k → bit i n ≡ f i) → n ≡ bits_of f k
bits_of_only f k n h e = bit_ext k n (bits_of f k) h (bits_of_lt f k) (λ i l. e i l ∙ sym (within f k i l))

-- Tests that agree below k make the same number.
pub bits_of_same : (f g : ℕ → Bool) (k : ℕ) → ((i : ℕ) → i < k → f i ≡ g i) → bits_of f k ≡ bits_of g k
bits_of_same f g k e = bits_of_only g k (bits_of f k) (bits_of_lt f k) (λ i l. within f k i l ∙ e i l)

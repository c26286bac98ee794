-- Laws of masks: every bit of the new mask, when a call must succeed, and what its answer then is. Assumes nothing.
use mathlib.Core.Path.{◌≡◌, refl, sym, ap, ◌∙◌}
use mathlib.Core.Logic.{◌⊎◌, inl, inr}
use mathlib.Core.Bool.{Bool, true, false, ◌&&◌, ◌||◌, not, cond, or-true, false≢true}
use Prim.Native.Nat.{ℕ, ◌^◌, ◌≤◌, ◌<◌}
use native.Mathlib.Omega.{arith}
use lib.Bits.{bit_and, bit_or, or_lt, and_lt}
use lib.Count.{ones}
use lib.Dec.{eqb, leb, ltb}
use lib.Pow.{pow-lt, pow_mono, ones_sub-lt}
use borrow.Author.Tests.{eq-eqb, lt-ltb, le-ltb, le-leb, leb-true, ltb-true}
use Rattle.error.specs.Codes.{OK, EINVAL}
use Rattle.error.specs.Answer.{answer}
use Rattle.error.proofs.Answers.{same_value, refused_not_done}
use Rattle.words.specs.Bit.{bit, bit_not}
use Rattle.words.proofs.Choice.{bool_ind, below_or, and_left, and_right}
use Rattle.words.proofs.Bits.{bit_of_or, bit_of_and, bit_of_not, bit_pow, bit_above_width}
use Rattle.words.proofs.BitTests.{and_set}
use Rattle.words.proofs.Ones.{pow_one}
use Rattle.cpu_mask.specs.Mask.{mask_bits, new_mask, validate_pin_mask, bits_below, cpu_mask_mod, cpu_pin_compute}

-- Bit i of the new mask, for every i: set or enabled, and not disabled.
pub new_mask_bit : (i current enable disable : ℕ) → current < 2 ^ mask_bits → enable < 2 ^ mask_bits → disable < 2 ^ mask_bits
    → bit i (new_mask current enable disable) ≡ (bit i current || bit i enable) && not (bit i disable)
new_mask_bit i current enable disable hc he hd =
    bit_of_and i (bit_or current enable) (bit_not mask_bits disable)
    ∙ ap (λ (b : Bool). b && bit i (bit_not mask_bits disable)) (bit_of_or i current enable)
    ∙ within (below_or i mask_bits)
  where
    within : (i < mask_bits) ⊎ (mask_bits ≤ i)
        → (bit i current || bit i enable) && bit i (bit_not mask_bits disable) ≡ (bit i current || bit i enable) && not (bit i disable)
    within (inl h) = ap (λ (b : Bool). (bit i current || bit i enable) && b) (bit_of_not mask_bits i disable h hd)
    within (inr h) = rw (bit_above_width mask_bits i current hc h, bit_above_width mask_bits i enable he h)

-- The new mask has no bit above the 32.
pub new_mask_fits : (current enable disable : ℕ) → current < 2 ^ mask_bits → enable < 2 ^ mask_bits → new_mask current enable disable < 2 ^ mask_bits
new_mask_fits current enable disable hc he =
    and_lt mask_bits (bit_or current enable) (bit_not mask_bits disable) (or_lt mask_bits current enable hc he) (ones_sub-lt mask_bits disable)

-- When the call must succeed: the thread does not run, and without pin-only, or with one bit left. The answer is then the new mask.
pub mask_mod_succeeds : (current enable disable : ℕ) (pinOnly : Bool) → (pinOnly ≡ true → validate_pin_mask (new_mask current enable disable) ≡ true)
    → cpu_mask_mod current enable disable false pinOnly ≡ answer OK (new_mask current enable disable)
unfolding cpu_mask_mod
mask_mod_succeeds current enable disable true one = rw (one refl)
mask_mod_succeeds current enable disable false one = refl

-- It succeeds in no other case.
pub mask_mod_only_then : (current enable disable : ℕ) (running pinOnly : Bool) (m : ℕ) → cpu_mask_mod current enable disable running pinOnly ≡ answer OK m
    → (running ≡ false) × (pinOnly ≡ true → validate_pin_mask (new_mask current enable disable) ≡ true) × (m ≡ new_mask current enable disable)
unfolding cpu_mask_mod
mask_mod_only_then current enable disable true pinOnly m e = absurd (refused_not_done 21 e)
mask_mod_only_then current enable disable false false m e = (refl, λ p. absurd (false≢true p), sym (same_value e))
mask_mod_only_then current enable disable false true m e =
    bool_ind
    (λ b. cond (not b) (answer EINVAL current) (answer OK (new_mask current enable disable)) ≡ answer OK m
    → (false ≡ false) × (true ≡ true → validate_pin_mask (new_mask current enable disable) ≡ true) × (m ≡ new_mask current enable disable))
    (validate_pin_mask (new_mask current enable disable)) (λ one d. (refl, λ _. one, sym (same_value d))) (λ _ d. absurd (refused_not_done 21 d)) e

-- A refusal answers the current mask, with EINVAL.
pub mask_mod_running : (current enable disable : ℕ) (pinOnly : Bool) → cpu_mask_mod current enable disable true pinOnly ≡ answer EINVAL current
unfolding cpu_mask_mod
mask_mod_running current enable disable pinOnly = refl

pub mask_mod_not_one : (current enable disable : ℕ) → validate_pin_mask (new_mask current enable disable) ≡ false
    → cpu_mask_mod current enable disable false true ≡ answer EINVAL current
unfolding cpu_mask_mod
mask_mod_not_one current enable disable many = rw many

-- When a pin must succeed, and that it pins to that CPU alone.
pub pin_succeeds : (cpu max : ℕ) → max ≤ mask_bits → cpu < max → cpu_pin_compute cpu max ≡ answer OK (2 ^ cpu)
unfolding cpu_pin_compute
pin_succeeds cpu max hm hc = rw (le-leb max mask_bits hm, lt-ltb cpu max hc)

pub pin_bits : (cpu i : ℕ) → bit i (2 ^ cpu) ≡ eqb i cpu
pin_bits cpu i = bit_pow i cpu

-- Its bit is below n exactly if the CPU is.
pub pin_below : (cpu n : ℕ) → bits_below (2 ^ cpu) n ≡ ltb cpu n
pin_below cpu n = go (below_or cpu n)
  where
    go : (cpu < n) ⊎ (n ≤ cpu) → ltb (2 ^ cpu) (2 ^ n) ≡ ltb cpu n
    go (inl h) = rw (lt-ltb cpu n h) (lt-ltb (2 ^ cpu) (2 ^ n) (pow-lt h))
    go (inr h) = rw (le-ltb cpu n h) (le-ltb (2 ^ cpu) (2 ^ n) (pow_mono h))

-- With that bit enabled and every other disabled it is the mask that is left, whatever the mask was.
pub pin_leaves : (cpu current : ℕ) → cpu < mask_bits → new_mask current (2 ^ cpu) (bit_not mask_bits (2 ^ cpu)) ≡ 2 ^ cpu
pin_leaves cpu current h =
    let twice : bit_not mask_bits (bit_not mask_bits (2 ^ cpu)) ≡ 2 ^ cpu = omega (arith, pow-lt h) in
    let both = bit_or current (2 ^ cpu) in
    let own : bit cpu (2 ^ cpu) ≡ true = pin_bits cpu cpu ∙ eq-eqb cpu cpu refl in
    let set : bit cpu both ≡ true =
    bit_of_or cpu current (2 ^ cpu) ∙ ap (λ (b : Bool). bit cpu current || b) own ∙ or-true (bit cpu current) in
    ap (bit_and both) twice ∙ and_set cpu both set

-- A pin passes the pin test.
pub pin_is_one_bit : (cpu : ℕ) → validate_pin_mask (2 ^ cpu) ≡ true
pin_is_one_bit cpu = eq-eqb (ones (2 ^ cpu)) 1 (pow_one cpu)

pub pin_only_then : (cpu max m : ℕ) → cpu_pin_compute cpu max ≡ answer OK m → (max ≤ mask_bits) × (cpu < max) × (m ≡ 2 ^ cpu)
unfolding cpu_pin_compute
pin_only_then cpu max m =
    bool_ind
    (λ b. (b ≡ true → (max ≤ mask_bits) × (cpu < max)) → cond b (answer OK (2 ^ cpu)) (answer EINVAL 0) ≡ answer OK m
    → (max ≤ mask_bits) × (cpu < max) × (m ≡ 2 ^ cpu))
    (leb max mask_bits && ltb cpu max) (λ _ says e. ((says refl).0, (says refl).1, sym (same_value e))) (λ _ _ e. absurd (refused_not_done 21 e))
    (λ good. (leb-true max mask_bits (and_left (leb max mask_bits) _ good), ltb-true cpu max (and_right (leb max mask_bits) _ good)))

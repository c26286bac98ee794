-- What the code's tests of a mask say, on either side of its 32 bits. Assumes nothing.
use borrow.Author.Tests.{le-ltb, lt-ltb, le-leb}
use mathlib.Core.Path.{◌≡◌, sym, ◌∙◌}
use mathlib.Core.Bool.{not}
use Prim.Native.Nat.{ℕ, ◌*◌, ◌%◌, ◌^◌, ◌≤◌, ◌<◌}
use native.Mathlib.Nat.{lt_of_lt_of_le}
use lib.Bits.{bit_and}
use lib.Dec.{eqb, leb, ltb}
use lib.Pow.{pow_mono}
use Rattle.words.specs.Bit.{bit}
use Rattle.words.proofs.Bits.{bit_above_width}
use Rattle.words.proofs.BitTests.{shl_one, test_bit}
use Rattle.cpu_mask.specs.Mask.{bits_below}

module _ (mask : ℕ) where
  pub allowed : (cpu : ℕ) → cpu < 32 → not (eqb (bit_and mask ((1 * 2 ^ cpu) % 2 ^ 32)) 0) ≡ bit cpu mask
  allowed cpu within = rw (shl_one 32 cpu within) (test_bit cpu mask)

  module _ (fits : mask < 2 ^ 32) where
    -- A CPU past the bits is not allowed, and past them every mask is below.
    pub past_is_barred : (cpu : ℕ) → 32 ≤ cpu → ltb cpu 32 ≡ bit cpu mask
    past_is_barred cpu past = le-ltb cpu 32 past ∙ sym (bit_above_width 32 cpu mask fits past)

    pub past_is_below : (n : ℕ) → 32 ≤ n → leb 32 n ≡ bits_below mask n
    past_is_below n past = le-leb 32 n past ∙ sym (lt-ltb mask (2 ^ n) (lt_of_lt_of_le fits (pow_mono past)))

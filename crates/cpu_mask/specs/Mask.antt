-- 01, "Masks": which CPUs a thread may run on, in 32 bits.
use Rattle.std.specs.Prelude.{ℕ, ◌^◌, Bool, ◌&&◌, not, cond, eqb, leb, ltb}
use Rattle.std.specs.Int.Bits.{bit_and, bit_or}
use Rattle.std.specs.Int.Count.{ones}
use Rattle.error.specs.Codes.{OK, EINVAL}
use Rattle.error.specs.Answer.{Answer, answer}
use Rattle.words.specs.Bit.{bit_not}

-- How many bits a mask has.
abbrev pub mask_bits : ℕ
mask_bits = 32

-- (current or enable) with every disable bit cleared; disable wins.
abbrev pub new_mask : ℕ → ℕ → ℕ → ℕ
new_mask current enable disable = bit_and (bit_or current enable) (bit_not mask_bits disable)

-- The pin test is yes exactly when the count of ones is one.
abbrev pub validate_pin_mask : ℕ → Bool
validate_pin_mask m = eqb (ones m) 1

-- Every bit of a mask is below n.
abbrev pub bits_below : ℕ → ℕ → Bool
bits_below m n = ltb m (2 ^ n)

-- Running is EINVAL; then pin-only with any number of ones but one is EINVAL. Refusals return the current mask.
unfoldable pub cpu_mask_mod : ℕ → ℕ → ℕ → Bool → Bool → Answer ℕ
cpu_mask_mod current enable disable running pinOnly =
    cond running (answer EINVAL current)
    (cond (pinOnly && not (validate_pin_mask (new_mask current enable disable))) (answer EINVAL current)
    (answer OK (new_mask current enable disable)))

-- 2 to the power cpu exactly if max is at most 32 and cpu is below it, else EINVAL.
unfoldable pub cpu_pin_compute : ℕ → ℕ → Answer ℕ
cpu_pin_compute cpu max = cond (leb max mask_bits && ltb cpu max) (answer OK (2 ^ cpu)) (answer EINVAL 0)

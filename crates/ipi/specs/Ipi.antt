-- 01, "IPI": which CPUs get an interrupt.
use Rattle.std.specs.Prelude.{ℕ, ◌^◌, Bool, false, ◌&&◌, not, cond, List, eqb, ltb, leb, ℤ, pos, get_or}
use Rattle.std.specs.Int.Signed.{lt_z}
use Rattle.error.specs.Codes.{OK, EINVAL}
use Rattle.error.specs.Answer.{Answer, answer}
use Rattle.words.specs.Bit.{bit, bits_of}
use Rattle.ipi.specs.declared.CpuRecord.{CpuRecord}

-- How many CPUs a mask covers.
abbrev pub max_ipi_cpus : ℕ
max_ipi_cpus = 16

-- What stands past the end of the array.
abbrev pub no_cpu : CpuRecord
no_cpu = record { active = false; priority = pos 0 }

-- CPU i isn't current, is active, and its affinity bit is set.
abbrev pub candidate : ℕ → ℕ → ℕ → CpuRecord → Bool
candidate current mask i cpu = not (eqb i current) && (cpu.active && bit i mask)

-- Its priority is strictly greater than the target's.
abbrev pub outranks : ℤ → ℤ → Bool
outranks target priority = lt_z target priority

-- A CPU of which both hold gets the interrupt.
unfoldable pub gets : ℕ → ℤ → ℕ → ℕ → CpuRecord → Bool
gets current target mask i cpu = candidate current mask i cpu && outranks target cpu.priority

abbrev pub eligible : ℕ → ℤ → ℕ → List CpuRecord → ℕ → Bool
eligible current target mask cpus i = gets current target mask i (get_or cpus i no_cpu)

-- Max is at most 16, num at most max, and current below num.
abbrev pub counts_fit : ℕ → ℕ → ℕ → Bool
counts_fit current num max = leb max max_ipi_cpus && (leb num max && ltb current num)

-- EINVAL exactly if max > 16, num > max or current >= num. Bit i is set exactly when i is below num and gets the interrupt.
unfoldable pub compute_ipi_mask : ℕ → ℤ → ℕ → List CpuRecord → ℕ → ℕ → Answer ℕ
compute_ipi_mask current target mask cpus num max =
    cond (counts_fit current num max) (answer OK (bits_of (eligible current target mask cpus) num)) (answer EINVAL 0)

-- EINVAL unless current < max <= 16; yes exactly if the current bit is clear and the mask is below 2 to the power max.
unfoldable pub validate_ipi_mask : ℕ → ℕ → ℕ → Answer Bool
validate_ipi_mask mask current max =
    cond (leb max max_ipi_cpus && ltb current max) (answer OK (not (bit current mask) && ltb mask (2 ^ max))) (answer EINVAL false)

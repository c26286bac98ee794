-- 01, "What must change shape": IPI crosses the boundary as five bytes a CPU.
use Rattle.std.specs.Prelude.{◌≡◌, ℕ, zero, suc, ◌+◌, ◌*◌, ◌<◌, Bool, true, ◌&&◌, cond, List, [], ◌∷◌, eqb, leb, ℤ, length, get_or, set, replicate}
use Rattle.error.specs.Codes.{EINVAL}
use Rattle.error.specs.Answer.{Answer, answer}
use Rattle.words.specs.HighFirst.{from_high_first}
use Rattle.words.specs.Signed.{to_signed}
use Rattle.ipi.specs.Ipi.{no_cpu, compute_ipi_mask}
use Rattle.ipi.specs.declared.CpuRecord.{CpuRecord}

-- The byte at a place.
abbrev pub byte_at : List ℕ → ℕ → ℕ
byte_at bs at = get_or bs at 0

-- The CPU whose bytes begin at a place: active, then the priority in two's complement, most significant byte first.
abbrev pub cpu_of_bytes : List ℕ → ℕ → CpuRecord
cpu_of_bytes bs at =
    record {
      active = eqb (byte_at bs at) 1;
      priority = to_signed 31 (from_high_first (byte_at bs (at + 1) ∷ byte_at bs (at + 2) ∷ byte_at bs (at + 3) ∷ byte_at bs (at + 4) ∷ []));
    }

-- The first num of sixteen CPUs, each from its five bytes.
unfoldable pub cpus_of_bytes : List ℕ → ℕ → List CpuRecord
cpus_of_bytes bs zero = replicate 16 no_cpu
cpus_of_bytes bs (suc i) = set (cpus_of_bytes bs i) i (cpu_of_bytes bs (5 * i))

-- An array has each of the first num CPUs in its place.
abbrev pub InPlaces : List ℕ → ℕ → List CpuRecord → Type 0
InPlaces bs num cpus = (i : ℕ) → i < num → get_or cpus i no_cpu ≡ cpu_of_bytes bs (5 * i)

-- Active is 0 or 1, for each of the first num CPUs.
unfoldable pub active_bytes : List ℕ → ℕ → Bool
active_bytes bs zero = true
active_bytes bs (suc i) = active_bytes bs i && leb (byte_at bs (5 * i)) 1

-- Exactly 5 times num bytes, and every active 0 or 1, else EINVAL; then as the rule says of those CPUs.
unfoldable pub ipi_mask_of_bytes : ℕ → ℤ → ℕ → List ℕ → ℕ → ℕ → Answer ℕ
ipi_mask_of_bytes current target mask bs num max =
    cond (eqb (length bs) (5 * num) && active_bytes bs num) (compute_ipi_mask current target mask (cpus_of_bytes bs num) num max)
    (answer EINVAL 0)

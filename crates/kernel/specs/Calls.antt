-- 01, "What must change shape": the rules that the C kernel calls, each with its value as bytes.
use Rattle.std.specs.Prelude.{ℕ, List, ℤ, replicate}
use Rattle.error.specs.Codes.{OK}
use Rattle.error.specs.Answer.{Answer, answer}
use Rattle.spinlock_validate.specs.Owner.{Holder, nobody, held_by}
use Rattle.owner_flags.specs.Flags as Flags
use Rattle.cpu_mask.specs.Mask.{validate_pin_mask, cpu_pin_compute}
use Rattle.mask_flags.specs.Flags.{mask_of_flags}
use Rattle.ipi.specs.Ipi.{validate_ipi_mask}
use Rattle.lent_room.specs.Room.{word_bytes, mask_bytes, yes_no_bytes, holder_bytes, as_bytes}
use Rattle.cpu_bytes.specs.Cpus.{ipi_mask_of_bytes}

-- The word that a thread on a CPU makes: 8 bytes.
abbrev pub compute_owner : ℕ → ℕ → ℕ → Answer (List ℕ)
compute_owner cpu thread wide = as_bytes word_bytes (Flags.compute_owner cpu thread wide)

-- A decoding as bytes: thread 8 then CPU 1, zeros if free.
abbrev pub decoded_bytes : Holder → List ℕ
decoded_bytes nobody = replicate 9 0
decoded_bytes (held_by thread cpu) = holder_bytes thread cpu

-- The decoding of a word.
abbrev pub decode_owner : ℕ → ℕ → Answer (List ℕ)
decode_owner word wide = as_bytes decoded_bytes (Flags.decode_owner word wide)

-- spin_lock_valid: yes or no, 1 byte.
abbrev pub lock_valid : ℕ → ℕ → ℕ → Answer (List ℕ)
lock_valid word cpu wide = as_bytes yes_no_bytes (Flags.lock_valid word cpu wide)

-- spin_unlock_valid: yes or no.
abbrev pub unlock_valid : ℕ → ℕ → ℕ → ℕ → Answer (List ℕ)
unlock_valid word cpu thread wide = as_bytes yes_no_bytes (Flags.unlock_valid word cpu thread wide)

-- The new mask: 4 bytes.
abbrev pub mask_mod : ℕ → ℕ → ℕ → ℕ → ℕ → Answer (List ℕ)
mask_mod current enable disable running pinOnly = as_bytes mask_bytes (mask_of_flags current enable disable running pinOnly)

-- The pin test: yes or no. It refuses no mask.
abbrev pub pin_test : ℕ → Answer (List ℕ)
pin_test mask = as_bytes yes_no_bytes (answer OK (validate_pin_mask mask))

-- The mask of one CPU.
abbrev pub pin : ℕ → ℕ → Answer (List ℕ)
pin cpu max = as_bytes mask_bytes (cpu_pin_compute cpu max)

-- The mask of the CPUs to interrupt, from five bytes a CPU.
abbrev pub ipi_mask : ℕ → ℤ → ℕ → List ℕ → ℕ → ℕ → Answer (List ℕ)
ipi_mask current target mask cpus num max = as_bytes mask_bytes (ipi_mask_of_bytes current target mask cpus num max)

-- validate_ipi_mask: yes or no.
abbrev pub ipi_mask_test : ℕ → ℕ → ℕ → Answer (List ℕ)
ipi_mask_test mask current max = as_bytes yes_no_bytes (validate_ipi_mask mask current max)

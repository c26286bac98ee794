-- 01, "Marked examples": one table, one claim. Each row is an example's number, what a rule gives, and what 01 says that it gives; the claim
-- is that the two are equal in every row. It is closed by computing (proofs/Marked.antt). A second table, ours, goes on with the wide machine of
-- 02, request 4, and with a self-deadlock there, request 6.
use Rattle.std.specs.Prelude.{◌≡◌, Bool, true, false, List, [], ◌∷◌, ◌++◌, ℕ, pos, replicate, Some}
use Rattle.error.specs.Codes.{OK, EBUSY, EINVAL}
use Rattle.error.specs.Answer.{answer}
use Rattle.spinlock_validate.specs.Owner.{tag_bits, wide_tag_bits, nobody, held_by, spin_lock_compute_owner, spin_lock_decode_owner, spin_lock_valid}
use Rattle.spinlock.specs.Lock.{acquire}
use Rattle.spinlock.specs.declared.SpinlockState.{SpinlockState}
use Rattle.cpu_mask.specs.Mask.{cpu_mask_mod, cpu_pin_compute}
use Rattle.ipi.specs.Ipi.{compute_ipi_mask}
use Rattle.ipi.specs.declared.CpuRecord.{CpuRecord}
use Rattle.machine.specs.State.{setup, not_made, cpu_at, lock_at}
use Rattle.machine.specs.declared.Setup.{Setup}
use Rattle.machine.specs.declared.Machine.{Machine}
use Rattle.operations.specs.Log.{state_at}
use Rattle.program.specs.Program.{respond_room}

-- A row: example n, what a rule gives and what it should give.
pub data Row : Type 1 where
  M : ℕ → {A : Type 0} → A → A → Row

-- Every row of the table holds.
unfoldable pub Holds : List Row → Type 0
Holds [] = Unit
Holds (M n found expected ∷ rows) = (found ≡ expected) × Holds rows

-- All 32 bits.
unfoldable pub all : ℕ
all = 0xffff_ffff

-- The lock record of thread 9 at a depth.
unfoldable pub at : ℕ → SpinlockState
at depth = record { owner = Some 9; nest_count = depth; irq_saved = true }

-- One CPU.
unfoldable pub cpu : Bool → ℕ → CpuRecord
cpu active priority = record { active = active; priority = pos priority }

-- M9's CPUs: priorities 9 9 5 9, CPU 3 inactive. The call takes sixteen; the other twelve would get the interrupt, if they were looked at.
unfoldable pub cpus : List CpuRecord
cpus = cpu true 9 ∷ cpu true 9 ∷ cpu true 5 ∷ cpu false 9 ∷ replicate 12 (cpu true 9)

-- 01, "One log entire": setup 20, and seven records, each of four bytes and eight zeros.
unfoldable pub opened : ℕ → ℕ → ℕ → List ℕ
opened a b c = a ∷ b ∷ c ∷ 0 ∷ replicate 8 0

-- But that of the fourth A is 1: by 02's second request it is an acquire, nested.
unfoldable pub flagged : ℕ → ℕ → ℕ → List ℕ
flagged a b c = a ∷ b ∷ c ∷ 0 ∷ 0 ∷ 0 ∷ 0 ∷ 1 ∷ replicate 4 0

unfoldable pub worked_log : List ℕ
worked_log =
    opened 0x00 0 0 ++ (opened 0x20 3 0 ++ (opened 0x40 0 7 ++ (flagged 0x40 0 7 ++ (opened 0x30 3 0 ++ (opened 0xb0 0 7 ++ opened 0x60 0 7)))))

-- The answers of 01: a code's four bytes and a value's.
unfoldable pub zeros : ℕ → List ℕ
zeros value = 0 ∷ 0 ∷ 0 ∷ 0 ∷ 0 ∷ 0 ∷ 0 ∷ value ∷ []

-- EBUSY, with value 0.
unfoldable pub busy : List ℕ
busy = 0xff ∷ 0xff ∷ 0xff ∷ 0xf0 ∷ 0 ∷ 0 ∷ 0 ∷ 0 ∷ []

-- The answers to the worked log.
unfoldable pub worked_answers : List ℕ
worked_answers = zeros 0 ++ (zeros 0 ++ (zeros 1 ++ (zeros 2 ++ (busy ++ (zeros 16 ++ zeros 1)))))

-- The machine after the worked log.
unfoldable pub worked_end : Machine
worked_end = state_at (setup 0x20).value worked_log 7

-- The examples.
unfoldable pub table : List Row
table =
    M 1 (spin_lock_compute_owner tag_bits 3 8) (answer OK 11)
    ∷ M 1 (spin_lock_decode_owner tag_bits 11) (answer OK (held_by 8 3))
    ∷ M 2 (spin_lock_decode_owner tag_bits 3) (answer EINVAL nobody)
    ∷ M 2 (spin_lock_decode_owner tag_bits 0) (answer OK nobody)
    ∷ M 3 (spin_lock_valid tag_bits 2 2) (answer OK false)
    ∷ M 4 (cpu_mask_mod 5 2 1 false false) (answer OK 6)
    ∷ M 4 (cpu_mask_mod 5 2 1 false true) (answer EINVAL 5)
    ∷ M 5 (cpu_mask_mod 1 8 8 false false) (answer OK 1)
    ∷ M 6 (cpu_mask_mod 5 0 all false false) (answer OK 0)
    ∷ M 6 (cpu_mask_mod 5 0 all false true) (answer EINVAL 5)
    ∷ M 7 (cpu_pin_compute 31 32) (answer OK 2147483648)
    ∷ M 7 (cpu_pin_compute 32 33) (answer EINVAL 0)
    ∷ M 7 (cpu_pin_compute 0 0) (answer EINVAL 0)
    ∷ M 8 (acquire (at 254) 9 true) (answer OK (at 255))
    ∷ M 8 (acquire (at 255) 9 true) (answer EBUSY (at 255))
    ∷ M 9 (compute_ipi_mask 0 (pos 5) 15 cpus 4 4) (answer OK 2)
    ∷ M 10 (compute_ipi_mask 0 (pos 2147483647) 15 cpus 4 4) (answer OK 0)
    ∷ M 11 (respond_room (0x20 ∷ worked_log) (replicate 56 0)) worked_answers
    ∷ M 11 (lock_at worked_end 7) (record { state = record { owner = Some 3; nest_count = 1; irq_saved = true }; word = 16 })
    ∷ M 11 (cpu_at worked_end 0).hold 1
    ∷ []

-- The worked log on CPU 15 of a wide machine of sixteen: setup 04.
unfoldable pub wide_log : List ℕ
wide_log =
    opened 0x0f 0 0 ++ (opened 0x2f 3 0 ++ (opened 0x4f 0 7 ++ (flagged 0x4f 0 7 ++ (opened 0x3f 3 0 ++ (opened 0xb0 0 7 ++ opened 0x6f 0 7)))))

-- Its answers are those of the worked log, but for the owner word: 16 times 4, with CPU 15.
unfoldable pub wide_answers : List ℕ
wide_answers = zeros 0 ++ (zeros 0 ++ (zeros 1 ++ (zeros 2 ++ (busy ++ (zeros 79 ++ zeros 1)))))

-- The machine after it.
unfoldable pub wide_end : Machine
wide_end = state_at (setup 0x04).value wide_log 7

-- There thread 3 on CPU 0 takes lock 7. It is asked for by CPU 4, whose number is that of CPU 0 in the two low bits, and then by CPU 0 itself, plain
-- and nested.
unfoldable pub twice_log : List ℕ
twice_log =
    (opened 0x00 0 0 ++ (opened 0x20 3 0 ++ (opened 0x04 0 0 ++ (opened 0x24 5 0 ++ opened 0x40 0 7))))
    ++ (opened 0x44 0 7 ++ (opened 0x40 0 7 ++ flagged 0x40 0 7))

-- A refusal with the last byte of its code, and a value.
unfoldable pub refused_with : ℕ → ℕ → List ℕ
refused_with code value = 0xff ∷ 0xff ∷ 0xff ∷ code ∷ 0 ∷ 0 ∷ 0 ∷ value ∷ []

-- EBUSY for CPU 4, EDEADLK for CPU 0, each with the depth; nested it goes to depth 2.
unfoldable pub twice_answers : List ℕ
twice_answers =
    zeros 0 ++ (zeros 0 ++ (zeros 0 ++ (zeros 0 ++ (zeros 1 ++ (refused_with 0xf0 1 ++ (refused_with 0xd3 1 ++ zeros 2))))))

-- The setup of a wide machine of n CPUs.
unfoldable pub wide_of : ℕ → Setup
wide_of n = record { n = n; pin_only = false; wide = true }

-- The examples of the wide machine.
unfoldable pub wide_table : List Row
wide_table =
    M 12 (spin_lock_compute_owner wide_tag_bits 15 16) (answer OK 31)
    ∷ M 12 (spin_lock_decode_owner wide_tag_bits 31) (answer OK (held_by 16 15))
    ∷ M 12 (spin_lock_compute_owner wide_tag_bits 16 16) (answer EINVAL 0)
    ∷ M 13 (spin_lock_decode_owner wide_tag_bits 15) (answer EINVAL nobody)
    ∷ M 13 (spin_lock_decode_owner wide_tag_bits 16) (answer OK (held_by 16 0))
    ∷ M 13 (spin_lock_compute_owner wide_tag_bits 3 8) (answer EINVAL 0)
    ∷ M 14 (setup 0x04).code OK
    ∷ M 14 (setup 0x04).value.setup (wide_of 16)
    ∷ M 14 (setup 0x14).code OK
    ∷ M 14 (setup 0x14).value.setup (wide_of 1)
    ∷ M 14 (setup 0xf4).code OK
    ∷ M 14 (setup 0xf4).value.setup (wide_of 15)
    ∷ M 14 (setup 0xf0) not_made
    ∷ M 15 (respond_room (0x04 ∷ wide_log) (replicate 56 0)) wide_answers
    ∷ M 15 (lock_at wide_end 7) (record { state = record { owner = Some 3; nest_count = 1; irq_saved = true }; word = 79 })
    ∷ M 15 (cpu_at wide_end 15).hold 1
    ∷ M 16 (respond_room (0x04 ∷ twice_log) (replicate 64 0)) twice_answers
    ∷ []

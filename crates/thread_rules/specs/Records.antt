-- The records that the interrupt rule is handed for the CPUs of a machine.
use Rattle.std.specs.Prelude.{◌≡◌, List, ℕ, ◌<◌, get_or}
use Rattle.ipi.specs.Ipi.{no_cpu as Ipi·noCpu}
use Rattle.ipi.specs.declared.CpuRecord.{CpuRecord}
use Rattle.machine.specs.State.{no_cpu}
use Rattle.machine.specs.declared.Cpu.{Cpu}
use Rattle.rules.specs.Rules.{cpu_record}

-- What the interrupt rule looks at in CPU i of these.
abbrev pub record_at : List Cpu → ℕ → CpuRecord
record_at cpus i = cpu_record (get_or cpus i no_cpu).run

-- An array has the records of the first n CPUs in their places.
abbrev pub HasRecords : ℕ → List Cpu → List CpuRecord → Type 0
HasRecords n cpus records = (i : ℕ) → i < n → get_or records i Ipi·noCpu ≡ record_at cpus i

-- In every well-formed machine a thread that has no place, and a CPU that has no current thread, own no lock at any depth. So right after an
-- accepted take, and right after an accepted put, no lock's record or word names that thread, nor that CPU: a job inherits nothing, and leaves
-- nothing behind.
--
-- `OwnsNothing`, `HoldsNothing` and `Accepted` stand in job/specs/Job.antt. The proofs are in job/proofs/NoInheritance.antt. Assumes nothing.
use Rattle.std.specs.Prelude.{None}
use mathlib.Core.Path.{◌≡◌}
use mathlib.Core.Bool.{true}
use mathlib.Core.List.{List}
use Prim.Native.Nat.{ℕ, ◌<◌}
use Rattle.machine.specs.State.{cpu_slots, cpu_at, thread_at}
use Rattle.machine.specs.declared.CpuId.{CpuId}
use Rattle.machine.specs.declared.ThreadId.{ThreadId}
use Rattle.machine.specs.declared.Machine.{Machine}
use Rattle.record.specs.Record.{request}
use Rattle.record.specs.declared.CpuOperation.{CpuOperation}
use Rattle.record.specs.declared.Operation.{Operation}
use Rattle.wellformed.specs.WellFormed.{well_formed}
use Rattle.wellformed.proofs.Facts.{says}
use Rattle.operations.specs.Asked.{next}
use Rattle.operations.proofs.Lengths.{Lengths}
use Rattle.job.specs.Job.{OwnsNothing, HoldsNothing, Accepted}
use Rattle.job.proofs.NoInheritance as Job

module _ (m : Machine) (formed : well_formed m ≡ true) where
  pub idle_thread : (t : ℕ) → (thread_at m t).place ≡ None → OwnsNothing m t
  idle_thread = Job.no_place m (says m formed)

  pub idle_cpu : (c : ℕ) → c < cpu_slots → (cpu_at m c).run.current ≡ None → HoldsNothing m c
  idle_cpu = Job.no_current m (says m formed)

  -- `Lengths`: 16 CPU slots, 32 threads and 128 locks, as every machine value has them. (Neither request uses a lock: its number z is any.)
  module _ (size : Lengths m) (bytes : List ℕ) (c : CpuId) (t : ThreadId) where
    pub after_take : {z : ℕ} → Accepted m bytes (request (Operation.OnCpu CpuOperation.Take) c.0 t.0 z)
        → OwnsNothing (next m bytes) t.0 × HoldsNothing (next m bytes) c.0
    after_take = Job.after_take m size formed bytes c t

    pub after_put : {z : ℕ} → Accepted m bytes (request (Operation.OnCpu CpuOperation.Put) c.0 t.0 z)
        → OwnsNothing (next m bytes) t.0 × HoldsNothing (next m bytes) c.0
    after_put = Job.after_put m size formed bytes c t

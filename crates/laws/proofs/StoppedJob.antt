-- A job is stopped while it holds locks, at whatever depth. On every well-formed machine where thread t is current on CPU c, one unwind is
-- accepted, and its value is what the CPU held. Every lock whose word named the CPU is then free, every other lock is as it was, and the CPU holds
-- nothing. The take of the thread right after it is accepted, and then no lock names the thread or the CPU; nor does one after the next put: the
-- job that comes inherits nothing. Three levels deep, one record, nothing inherited.
--
-- `Unwinds` stands in job/specs/Stopped.antt; `OwnsNothing`, `HoldsNothing` and `Accepted` in job/specs/Job.antt. The proofs are in
-- job/proofs/Stopped.antt and job/proofs/NoInheritance.antt. Assumes nothing.
use Rattle.std.specs.Prelude.{Some}
use mathlib.Core.Path.{◌≡◌}
use mathlib.Core.Bool.{true}
use mathlib.Core.List.{List}
use Prim.Native.Nat.{ℕ}
use Rattle.machine.specs.State.{cpu_at}
use Rattle.machine.specs.declared.CpuId.{CpuId}
use Rattle.machine.specs.declared.ThreadId.{ThreadId}
use Rattle.machine.specs.declared.Machine.{Machine}
use Rattle.record.specs.Record.{request, request_of}
use Rattle.record.specs.declared.CpuOperation.{CpuOperation}
use Rattle.record.specs.declared.Operation.{Operation}
use Rattle.wellformed.specs.WellFormed.{well_formed}
use Rattle.operations.specs.Asked.{next}
use Rattle.operations.proofs.Lengths.{Lengths, next_lengths}
use Rattle.kept.proofs.Laws.{step_keeps}
use Rattle.job.specs.Job.{OwnsNothing, HoldsNothing, Accepted}
use Rattle.job.specs.Stopped.{Unwinds}
use Rattle.job.proofs.Stopped as Job
use Rattle.job.proofs.NoInheritance as Inheritance

-- `Lengths`: 16 CPU slots, 32 threads and 128 locks, as every machine value has them. (No request here uses a lock: its number is any.)
module _ (m : Machine) (formed : well_formed m ≡ true) (size : Lengths m) (c : CpuId) (t : ThreadId)
    (runs : (cpu_at m c.0).run.current ≡ Some t) (unwind : List ℕ) {x : ℕ}
    (asks : request_of m.setup unwind ≡ request Operation.Unwind c.0 t.0 x) where
  pub stopped : Unwinds m unwind c.0 t.0
  stopped = Job.unwinds m size formed c.0 t.0 runs unwind asks

  module _ (take : List ℕ) {y : ℕ} (takes : request_of m.setup take ≡ request (Operation.OnCpu CpuOperation.Take) c.0 t.0 y) where
    pub taken : Accepted (next m unwind) take (request (Operation.OnCpu CpuOperation.Take) c.0 t.0 y)
    taken = Job.take_accepted m size formed c.0 t.0 runs unwind asks take takes

    pub left_nothing : OwnsNothing (next (next m unwind) take) t.0 × HoldsNothing (next (next m unwind) take) c.0
    left_nothing = Inheritance.after_take (next m unwind) (next_lengths m unwind size) (step_keeps m size unwind formed) take c t taken

    -- Whoever is put on the CPU next.
    module _ (u : ThreadId) (put : List ℕ) {z : ℕ}
        (accepted : Accepted (next (next m unwind) take) put (request (Operation.OnCpu CpuOperation.Put) c.0 u.0 z)) where
      size_then : Lengths (next (next m unwind) take)
      size_then = next_lengths (next m unwind) take (next_lengths m unwind size)

      formed_then : well_formed (next (next m unwind) take) ≡ true
      formed_then = step_keeps (next m unwind) (next_lengths m unwind size) take (step_keeps m size unwind formed)

      pub inherits_nothing : OwnsNothing (next (next (next m unwind) take) put) u.0 × HoldsNothing (next (next (next m unwind) take) put) c.0
      inherits_nothing = Inheritance.after_put (next (next m unwind) take) size_then formed_then put c u accepted

      pub still_nothing : OwnsNothing (next (next (next m unwind) take) put) t.0
      still_nothing = Inheritance.put_leaves (next (next m unwind) take) size_then formed_then put c u t.0 left_nothing.0 accepted

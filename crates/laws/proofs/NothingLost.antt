-- An accepted release by a CPU and its thread undoes an accepted acquire of either kind by them: right after the acquire the release is
-- accepted, and the machine is the one before the two. So a job that gives back what it took leaves the machine as it found it.
--
-- `Accepted` and `Gives` stand in job/specs/Job.antt. The proof is in job/proofs/Undone.antt. Assumes nothing.
use mathlib.Core.Path.{◌≡◌}
use mathlib.Core.Bool.{Bool, true}
use mathlib.Core.List.{List}
use Prim.Native.Nat.{ℕ}
use Rattle.spinlock.specs.declared.Operation.{Operation as LockOperation}
use Rattle.machine.specs.declared.CpuId.{CpuId}
use Rattle.machine.specs.declared.LockId.{LockId}
use Rattle.machine.specs.declared.Machine.{Machine}
use Rattle.record.specs.Record.{request}
use Rattle.record.specs.declared.Operation.{Operation}
use Rattle.wellformed.specs.WellFormed.{well_formed}
use Rattle.operations.specs.Asked.{next}
use Rattle.operations.proofs.Lengths.{Lengths}
use Rattle.job.specs.Job.{Accepted, Gives}
use Rattle.job.proofs.Undone as Job

-- `Gives m c l x`: on machine x a release of l by c is accepted and gives m. `Lengths`: 16 CPU slots, 32 threads and 128 locks. (An acquire
-- uses no thread: its number z is any.)
pub nothing_lost : (m : Machine) → Lengths m → well_formed m ≡ true → (bytes : List ℕ) (c : CpuId) (l : LockId) {nested : Bool} {z : ℕ}
    → Accepted m bytes (request (Operation.OnLock (LockOperation.Acquire nested)) c.0 z l.0) → Gives m c l (next m bytes)
nothing_lost = Job.nothing_lost

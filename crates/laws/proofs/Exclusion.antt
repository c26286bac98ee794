-- While a lock is held by thread t on CPU c, a plain acquire of it is refused for everyone, its holder too; a nested acquire or a release that is
-- accepted comes from CPU c, and t is the thread that runs there.
--
-- `Accepted` stands in job/specs/Job.antt. The proofs are in job/proofs/Exclusion.antt. Assumes nothing.
use Rattle.std.specs.Prelude.{Some}
use mathlib.Core.Path.{◌≡◌, ap, sym, ◌∙◌}
use mathlib.Core.Bool.{true, false}
use mathlib.Core.List.{List}
use Prim.Native.Nat.{ℕ}
use Rattle.error.specs.Codes.{is_ok}
use Rattle.words.specs.Tag.{cpu_of}
use Rattle.spinlock.specs.Lock.{held}
use Rattle.spinlock.specs.declared.Operation.{Operation as LockOperation}
use Rattle.machine.specs.State.{tag_bits, cpu_at, lock_at}
use Rattle.machine.specs.declared.CpuId.{CpuId}
use Rattle.machine.specs.declared.LockId.{LockId}
use Rattle.machine.specs.declared.Machine.{Machine}
use Rattle.record.specs.Record.{request, request_of}
use Rattle.record.specs.declared.Operation.{Operation}
use Rattle.wellformed.specs.WellFormed.{well_formed}
use Rattle.operations.specs.Asked.{answered}
use Rattle.job.specs.Job.{Holder, Accepted}
use Rattle.job.proofs.Exclusion as Job

-- Lock l has an owner. On every machine, well-formed or not, a record that asks for a plain acquire of it, from any CPU d, is refused. (Neither
-- this call nor those below use a thread: its number z is any.)
pub acquire_refused : (m : Machine) (l : LockId) (t : ℕ) → (lock_at m l.0).state.owner ≡ Some t → (bytes : List ℕ) (d : CpuId) {z : ℕ}
    → request_of m.setup bytes ≡ request (Operation.OnLock (LockOperation.Acquire false)) d.0 z l.0 → is_ok (answered m bytes).code ≡ false
acquire_refused m l t thread bytes d asks = Job.acquire_refused m bytes d l (ap held thread) asks

-- Lock l is held: its record names thread t, and its word CPU c. The call comes from CPU d.
module _ (m : Machine) (formed : well_formed m ≡ true) (l : LockId) (c t : ℕ) (thread : (lock_at m l.0).state.owner ≡ Some t)
    (cpu : cpu_of (tag_bits m.setup) (lock_at m l.0).word ≡ c) (bytes : List ℕ) (d : CpuId) where
  -- It comes from CPU c, which runs thread t.
  abbrev FromHolder : Type 0
  FromHolder = (d.0 ≡ c) × ((cpu_at m d.0).run.current ≡ Some (record { 0 = t }))

  from : Holder m l.0 d.0 t → FromHolder
  from h = (sym h.cpu ∙ cpu, h.thread)

  pub nested_excluded : {z : ℕ} → Accepted m bytes (request (Operation.OnLock (LockOperation.Acquire true)) d.0 z l.0) → FromHolder
  nested_excluded a = from (Job.nested_by_holder m formed bytes d l t thread a)

  pub release_excluded : {z : ℕ} → Accepted m bytes (request (Operation.OnLock LockOperation.Release) d.0 z l.0) → FromHolder
  release_excluded a = from (Job.released_by_holder m formed bytes d l t thread a)

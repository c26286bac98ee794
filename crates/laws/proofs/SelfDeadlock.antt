-- A self-deadlock is told from contention. EDEADLK is answered only to the CPU that holds the lock it asks for, and a plain acquire that is
-- answered EBUSY is for a lock that another CPU holds. So a spin on EBUSY always waits for another CPU. (A kernel that spun on EBUSY for a lock of
-- its own CPU never came to an end.) What is refused moves no ledger, with EDEADLK as with any other code.
--
-- `Holds`, `HeldByAnother` and `plain_answer` stand in job/specs/Deadlock.antt, the ledger's `settled` in ledger/specs/Ledger.antt. The proofs are
-- in job/proofs/Deadlock.antt. Assumes nothing.
use Rattle.std.specs.Prelude.{Some}
use mathlib.Core.Path.{◌≡◌, ap}
use mathlib.Core.Bool.{true, false, cond}
use mathlib.Core.List.{List}
use Prim.Native.Nat.{ℕ}
use lib.Dec.{eqb}
use Rattle.error.specs.Codes.{EBUSY, EDEADLK, is_ok}
use Rattle.error.specs.Answer.{answer}
use Rattle.spinlock.specs.declared.Operation.{Operation as LockOperation}
use Rattle.machine.specs.State.{cpu_at, lock_at}
use Rattle.machine.specs.declared.ThreadId.{ThreadId}
use Rattle.machine.specs.declared.Machine.{Machine}
use Rattle.record.specs.Record.{request_of}
use Rattle.record.specs.declared.Operation.{Operation}
use Rattle.record.specs.declared.Request.{Request}
use Rattle.wellformed.specs.WellFormed.{well_formed}
use Rattle.operations.specs.Asked.{answered, next}
use Rattle.operations.proofs.Refused.{record_refused}
use Rattle.job.specs.Deadlock.{Holds, HeldByAnother, plain_answer}
use Rattle.job.proofs.Deadlock as Job
use Rattle.ledger.specs.Ledger.{Book, Stand, call_of, settled}

-- What twelve bytes ask of a machine, by the CPU `asked.cpu`, of the lock `asked.lock`.
module _ (m : Machine) (bytes : List ℕ) where
  abbrev asked : Request
  asked = request_of m.setup bytes

  -- They ask for a plain acquire.
  abbrev Plain : Type 0
  Plain = asked.operation ≡ Operation.OnLock (LockOperation.Acquire false)

  -- The machine stays, and nothing is posted to any book of the ledger.
  pub record MovesNothing : Type 0 where
    pub machine : next m bytes ≡ m
    pub ledger : (book : Book) (stand : Stand) → settled book (is_ok (answered m bytes).code) (call_of asked) stand ≡ stand

  pub refused_moves_nothing : is_ok (answered m bytes).code ≡ false → MovesNothing
  refused_moves_nothing no_Ok = record { machine = record_refused m bytes no_Ok; ledger = λ book stand. rw no_Ok }

  pub deadlock_moves_nothing : (answered m bytes).code ≡ EDEADLK → MovesNothing
  deadlock_moves_nothing dead = refused_moves_nothing (ap is_ok dead)

  module _ (formed : well_formed m ≡ true) where
    -- Every plain acquire: no thread EINVAL, free OK, held by the CPU itself EDEADLK, by another EBUSY; the value is the depth.
    pub plain_acquire : Plain → answered m bytes ≡ plain_answer m asked.cpu.0 asked.lock.0
    plain_acquire = Job.plain_answered m formed bytes

    -- Who is answered EDEADLK made a plain acquire of a lock that it holds.
    pub deadlock_is_own : (answered m bytes).code ≡ EDEADLK → Plain × Holds m asked.cpu.0 asked.lock.0
    deadlock_is_own dead = (Job.deadlock_is_plain m formed bytes dead, Job.deadlock_holds m formed bytes dead)

    -- A plain acquire that is answered EBUSY is for a lock that another CPU holds.
    pub busy_is_anothers : Plain → (answered m bytes).code ≡ EBUSY → HeldByAnother m asked.cpu.0 asked.lock.0
    busy_is_anothers = Job.busy_elsewhere m formed bytes

    -- And the other way round: while CPU c holds the lock, that CPU is told EDEADLK, and every other that has a thread EBUSY.
    pub told_apart : Plain → (c : ℕ) → Holds m c asked.lock.0 → (u : ThreadId) → (cpu_at m asked.cpu.0).run.current ≡ Some u
        → answered m bytes ≡ answer (cond (eqb c asked.cpu.0) EDEADLK EBUSY) (lock_at m asked.lock.0).state.nest_count
    told_apart = Job.held_answered m formed bytes

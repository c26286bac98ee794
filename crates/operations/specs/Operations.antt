-- 01, "Log records", the column "reads; writes", and 02, request 1: each request as an operation on its cells. A written cell counts as read too.
-- A record that fails the form test is EINVAL, value 0, and touches no cell.
use Rattle.std.specs.Prelude.{ℕ, List, [], ◌∷◌}
use Rattle.error.specs.Codes.{EINVAL}
use Rattle.error.specs.Answer.{Answer, answer}
use Rattle.order.specs.Outcome.{Outcome, refuse, accept}
use Rattle.order.specs.Cells.{Op, Vals}
use Rattle.spinlock.specs.declared.Operation.{Operation as LockOperation}
use Rattle.machine.specs.declared.Setup.{Setup}
use Rattle.machine.specs.declared.Lock.{Lock}
use Rattle.record.specs.declared.CpuOperation.{CpuOperation}
use Rattle.record.specs.declared.ThreadOperation.{ThreadOperation}
use Rattle.record.specs.declared.Operation.{Operation}
use Rattle.record.specs.declared.Request.{Request}
use Rattle.rules.specs.Rules as Rules
use Rattle.operations.specs.Cells.{run, hold, thread, lock, machine_store, every_run, of_runs, every_lock, of_locks, as_locks}

-- One cell's new value, two cells', or none, as an operation hands them back.
abbrev pub one : {A W : Type 0} → Outcome A W → Outcome A (W × Unit {0})
one (refuse a) = refuse a
one (accept a w) = accept a (w, tt)

abbrev pub two : {A W X : Type 0} → Outcome A (W × X) → Outcome A (W × (X × Unit {0}))
two (refuse a) = refuse a
two (accept a w) = accept a (w.0, (w.1, tt))

abbrev pub none : {A : Type 0} → A → Outcome A (Unit {0})
none a = accept a tt

-- The lock after its rule, with the hold that moves when the rule accepted.
abbrev pub with_hold : LockOperation → ℕ → Outcome (Answer ℕ) Lock → Outcome (Answer ℕ) (Lock × (ℕ × Unit {0}))
with_hold op h (refuse a) = refuse a
with_hold op h (accept a k) = accept a (k, (Rules.moved op h, tt))

-- The hold and every lock after an unwind.
abbrev pub with_locks : Outcome (Answer ℕ) (ℕ × List Lock) → Outcome (Answer ℕ) (ℕ × Vals machine_store (every_lock []))
with_locks (refuse a) = refuse a
with_locks (accept a v) = accept a (v.0, as_locks [] v.1 tt)

-- 0 to 3.
abbrev pub on_cpu : CpuOperation → ℕ → ℕ → Op machine_store (Answer ℕ)
on_cpu CpuOperation.Up c t = record { reads = []; writes = run c ∷ []; body = λ r. one (Rules.up r) }
on_cpu CpuOperation.Down c t = record { reads = []; writes = run c ∷ []; body = λ r. one (Rules.down r) }
on_cpu CpuOperation.Put c t = record { reads = []; writes = run c ∷ thread t ∷ []; body = λ r k. two (Rules.put c t r k) }
on_cpu CpuOperation.Take c t = record { reads = hold c ∷ []; writes = run c ∷ thread t ∷ []; body = λ h r k. two (Rules.take t h r k) }

-- 4 and 6.
abbrev pub on_lock : Setup → LockOperation → ℕ → ℕ → Op machine_store (Answer ℕ)
on_lock s op c l =
    record { reads = run c ∷ []; writes = lock l ∷ hold c ∷ []; body = λ r k h. with_hold op h (Rules.lock_op s op c r k) }

-- 7, 8 and 9.
abbrev pub on_thread : Setup → ThreadOperation → ℕ → ℕ → Op machine_store (Answer ℕ)
on_thread s (ThreadOperation.Mask enable disable) c t =
    record { reads = []; writes = thread t ∷ []; body = λ k. one (Rules.mask s enable disable k) }
on_thread s ThreadOperation.Pin c t = record { reads = []; writes = thread t ∷ []; body = λ k. one (Rules.pin s c k) }
on_thread s (ThreadOperation.Priority a) c t = record { reads = []; writes = thread t ∷ []; body = λ k. one (Rules.priority a k) }

-- 12: reads the run cell; writes the hold cell and every lock.
abbrev pub unwinding : Setup → ℕ → ℕ → Op machine_store (Answer ℕ)
unwinding s c t =
    record {
      reads = run c ∷ [];
      writes = hold c ∷ every_lock [];
      body = λ r h. of_locks (Outcome (Answer ℕ) (ℕ × Vals machine_store (every_lock []))) [] (λ locks. with_locks (Rules.unwind s c t r h locks));
    }

-- The operation with the numbers of its CPU, thread and lock, on a machine of this setup.
abbrev pub operation_by : Setup → Operation → ℕ → ℕ → ℕ → Op machine_store (Answer ℕ)
operation_by s Operation.Malformed c t l = record { reads = []; writes = []; body = refuse (answer EINVAL 0) }
operation_by s (Operation.OnCpu op) c t l = on_cpu op c t
operation_by s (Operation.OnLock op) c t l = on_lock s op c l
operation_by s (Operation.OnThread op) c t l = on_thread s op c t
operation_by s Operation.Ipi c t l =
    record {
      reads = every_run (thread t ∷ []);
      writes = [];
      body = of_runs (Outcome (Answer ℕ) (Unit {0})) (thread t ∷ []) [] (λ runs k. none (Rules.ipi s c runs k));
    }
operation_by s Operation.Owner c t l = record { reads = lock l ∷ []; writes = []; body = λ k. none (Rules.owner k) }
operation_by s Operation.Unwind c t l = unwinding s c t

-- The operation of a request.
abbrev pub operation : Setup → Request → Op machine_store (Answer ℕ)
operation s r = operation_by s r.operation r.cpu.0 r.thread.0 r.lock.0

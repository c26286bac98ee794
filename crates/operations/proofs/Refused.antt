-- A record whose code is not OK leaves the machine as it was. A refused outcome does so by its type; an accepted one that writes a cell has the
-- code OK, which is shown of each rule. Assumes nothing.
use Rattle.std.specs.Prelude.{Option, None, Some}
use Rattle.machine.specs.declared.ThreadId.{ThreadId}
use mathlib.Core.Path.{◌≡◌, refl, sym, ◌∙◌}
use mathlib.Core.Bool.{Bool, true, false, ◌||◌, not, cond, false≢true}
use mathlib.Core.List.{List}
use Prim.Native.Nat.{ℕ}
use lib.Dec.{eqb}
use lib.IntN.{ℤ}
use Rattle.error.specs.Codes.{is_ok}
use Rattle.error.specs.Answer.{Answer}
use Rattle.words.specs.Bit.{bit, bit_not}
use Rattle.order.specs.Outcome.{Outcome, refuse, accept, accepted, answer_of}
use Rattle.order.specs.Cells.{Op, Vals, result, commit, after, reply}
use Rattle.spinlock.specs.declared.SpinlockState.{SpinlockState}
use Rattle.spinlock.specs.declared.Operation.{Operation as LockOperation}
use Rattle.cpu_mask.specs.Mask.{mask_bits}
use Rattle.machine.specs.State.{is_thread, is_current, cpu_at, thread_at, lock_at}
use Rattle.machine.specs.declared.Setup.{Setup}
use Rattle.machine.specs.declared.Run.{Run}
use Rattle.machine.specs.declared.Thread.{Thread}
use Rattle.machine.specs.declared.Lock.{Lock}
use Rattle.machine.specs.declared.Machine.{Machine}
use Rattle.record.specs.Record.{request_of}
use Rattle.record.specs.declared.CpuOperation.{CpuOperation}
use Rattle.record.specs.declared.ThreadOperation.{ThreadOperation}
use Rattle.record.specs.declared.Operation.{Operation}
use Rattle.rules.specs.Rules as Rules
use Rattle.operations.specs.Cells.{Cell, machine_store}
use Rattle.operations.specs.Operations.{one, two, with_hold, with_locks, on_cpu, on_lock, on_thread, unwinding, operation_by}
use Rattle.operations.specs.Asked.{answered, next}
use Rattle.operations.proofs.Turns.{writes_none}
use Rattle.operations.proofs.Unwound.{unwind_fed}

-- An outcome that is accepted has the code OK.
record DoneIsOK {W : Type 0} (o : Outcome (Answer ℕ) W) : Type 0 where
  code : accepted o ≡ true → is_ok (answer_of o).code ≡ true

refusal : {W : Type 0} {a : Answer ℕ} → DoneIsOK {W = W} (refuse a)
refusal = record { code = λ e. absurd (false≢true e) }

finished : {W : Type 0} {value : ℕ} {cells : W} → DoneIsOK (Rules.done value cells)
finished = record { code = λ _. refl }

-- A test between two such outcomes.
either : {W : Type 0} (test : Bool) {x y : Outcome (Answer ℕ) W} → DoneIsOK x → DoneIsOK y → DoneIsOK (cond test x y)
either true p q = p
either false p q = q

-- The cells as an operation hands them back.
of_one : {W : Type 0} (o : Outcome (Answer ℕ) W) → DoneIsOK o → DoneIsOK (one o)
of_one (refuse a) p = refusal
of_one (accept a w) p = record { code = p.code }

of_two : {W X : Type 0} (o : Outcome (Answer ℕ) (W × X)) → DoneIsOK o → DoneIsOK (two o)
of_two (refuse a) p = refusal
of_two (accept a w) p = record { code = p.code }

of_hold : (op : LockOperation) (h : ℕ) (o : Outcome (Answer ℕ) Lock) → DoneIsOK o → DoneIsOK (with_hold op h o)
of_hold op h (refuse a) p = refusal
of_hold op h (accept a w) p = record { code = p.code }

of_locks_done : (o : Outcome (Answer ℕ) (ℕ × List Lock)) → DoneIsOK o → DoneIsOK (with_locks o)
of_locks_done (refuse a) p = refusal
of_locks_done (accept a w) p = record { code = p.code }

-- The rules.
up_done : (r : Run) → DoneIsOK (Rules.up r)
unfolding Rules.up
up_done r = either r.active refusal finished

down_done : (r : Run) → DoneIsOK (Rules.down r)
unfolding Rules.down
down_done r = either (not r.active) refusal (either (Rules.occupied r.current) refusal finished)

put_done : (c t : ℕ) (r : Run) (k : Thread) → DoneIsOK (Rules.put c t r k)
unfolding Rules.put
put_done c t r k =
    either (not r.active) refusal
    (either (Rules.occupied r.current || Rules.placed k.place) refusal (either (not (bit c k.mask)) refusal finished))

take_done : (t h : ℕ) (r : Run) (k : Thread) → DoneIsOK (Rules.take t h r k)
unfolding Rules.take
take_done t h r k = either (not (is_current r.current t)) refusal (either (not (eqb h 0)) refusal finished)

settled_done : (s : Setup) (c t : ℕ) (k : Lock) (a : Answer SpinlockState) → DoneIsOK (Rules.settled s c t k a)
settled_done s c t k a = either (is_ok a.code) finished refusal

lock_done : (s : Setup) (op : LockOperation) (c : ℕ) (current : Option ThreadId) (k : Lock) → DoneIsOK (Rules.lock_by s op c current k)
lock_done s op c None k = refusal
lock_done s op c (Some t) k = either (is_thread t.0) (settled_done s c t.0 k (Rules.ruled s op c t.0 k)) refusal

remasked_done : (k : Thread) (a : Answer ℕ) → DoneIsOK (Rules.remasked k a)
remasked_done k a = either (is_ok a.code) finished refusal

mask_done : (s : Setup) (enable disable : ℕ) (k : Thread) → DoneIsOK (Rules.mask s enable disable k)
unfolding Rules.mask
mask_done s enable disable k = remasked_done k (Rules.within_cpus s k.mask (Rules.masked s enable disable k))

pin_done : (s : Setup) (c : ℕ) (k : Thread) → DoneIsOK (Rules.pin s c k)
unfolding Rules.pin
pin_done s c k = remasked_done k (Rules.masked s (Rules.cpu_bit c) (bit_not mask_bits (Rules.cpu_bit c)) k)

priority_done : (a : ℤ) (k : Thread) → DoneIsOK (Rules.priority a k)
unfolding Rules.priority
priority_done a k = either (Rules.placed k.place) refusal finished

unwind_done : (s : Setup) (c t : ℕ) (r : Run) (h : ℕ) (locks : List Lock) → DoneIsOK (Rules.unwind s c t r h locks)
unfolding Rules.unwind
unwind_done s c t r h locks = either (not (is_current r.current t)) refusal finished

-- An operation of which that holds, and is refused, leaves the machine.
module _ (m : Machine) where
  left : (cs : List Cell) (o : Outcome (Answer ℕ) (Vals machine_store cs)) → DoneIsOK o → is_ok (answer_of o).code ≡ false
      → commit machine_store (Answer ℕ) cs o m ≡ m
  left cs (refuse a) p no_Ok = refl
  left cs (accept a vs) p no_Ok = absurd (false≢true (sym no_Ok ∙ p.code refl))

  abbrev Leaves : Op machine_store (Answer ℕ) → Type 0
  Leaves o = is_ok (reply machine_store (Answer ℕ) m o).code ≡ false → after machine_store (Answer ℕ) m o ≡ m

  leaves_by : (o : Op machine_store (Answer ℕ)) → DoneIsOK (result machine_store (Answer ℕ) o m) → Leaves o
  leaves_by o p = left o.writes (result machine_store (Answer ℕ) o m) p

  cpu_leaves : (op : CpuOperation) (c t : ℕ) → Leaves (on_cpu op c t)
  cpu_leaves CpuOperation.Up c t = leaves_by (on_cpu CpuOperation.Up c t) (of_one _ (up_done (cpu_at m c).run))
  cpu_leaves CpuOperation.Down c t = leaves_by (on_cpu CpuOperation.Down c t) (of_one _ (down_done (cpu_at m c).run))
  cpu_leaves CpuOperation.Put c t = leaves_by (on_cpu CpuOperation.Put c t) (of_two _ (put_done c t (cpu_at m c).run (thread_at m t)))
  cpu_leaves CpuOperation.Take c t =
      leaves_by (on_cpu CpuOperation.Take c t) (of_two _ (take_done t (cpu_at m c).hold (cpu_at m c).run (thread_at m t)))

  lock_leaves : (s : Setup) (op : LockOperation) (c l : ℕ) → Leaves (on_lock s op c l)
  unfolding Rules.lock_op
  lock_leaves s op c l =
      leaves_by (on_lock s op c l) (of_hold op (cpu_at m c).hold _ (lock_done s op c (cpu_at m c).run.current (lock_at m l)))

  thread_leaves : (s : Setup) (op : ThreadOperation) (c t : ℕ) → Leaves (on_thread s op c t)
  thread_leaves s (ThreadOperation.Mask enable disable) c t =
      leaves_by (on_thread s (ThreadOperation.Mask enable disable) c t) (of_one _ (mask_done s enable disable (thread_at m t)))
  thread_leaves s ThreadOperation.Pin c t = leaves_by (on_thread s ThreadOperation.Pin c t) (of_one _ (pin_done s c (thread_at m t)))
  thread_leaves s (ThreadOperation.Priority a) c t =
      leaves_by (on_thread s (ThreadOperation.Priority a) c t) (of_one _ (priority_done a (thread_at m t)))

  leaves : (s : Setup) (op : Operation) (c t l : ℕ) → Leaves (operation_by s op c t l)
  leaves s Operation.Malformed c t l = λ _. refl
  leaves s (Operation.OnCpu op) c t l = cpu_leaves op c t
  leaves s (Operation.OnLock op) c t l = lock_leaves s op c l
  leaves s (Operation.OnThread op) c t l = thread_leaves s op c t
  leaves s Operation.Ipi c t l = λ _. writes_none m (result machine_store (Answer ℕ) (operation_by s Operation.Ipi c t l) m)
  leaves s Operation.Owner c t l = λ _. refl
  leaves s Operation.Unwind c t l =
      leaves_by (unwinding s c t) (rw (unwind_fed m s c t) (of_locks_done _ (unwind_done s c t (cpu_at m c).run (cpu_at m c).hold _)))

  pub record_refused : (bytes : List ℕ) → is_ok (answered m bytes).code ≡ false → next m bytes ≡ m
  unfolding answered next
  record_refused bytes = let r = request_of m.setup bytes in leaves m.setup r.operation r.cpu.0 r.thread.0 r.lock.0

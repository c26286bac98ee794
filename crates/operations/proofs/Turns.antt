-- Storing what the code loaded and its rule gave back is the operation: what a request does not name is stored as it was, which changes
-- nothing. A law for each family. Assumes nothing.
use mathlib.Core.Path.{◌≡◌, refl, sym, ap, ◌∙◌}
use mathlib.Core.Bool.{Bool, true, false, false≢true}
use mathlib.Core.List.{List, [], ◌∷◌, ◌++◌, map}
use Prim.Native.Nat.{ℕ, zero, suc}
use lib.ListN.{length, set}
use lib.Seq.{set-get_or}
use Rattle.error.specs.Codes.{OK, EPERM, EINVAL, is_ok}
use Rattle.error.specs.Answer.{Answer, answer}
use Rattle.order.specs.Outcome.{Outcome, refuse, accept, answer_of, cells_after}
use Rattle.order.specs.Cells.{Op, result, commit, after, reply}
use Rattle.order.proofs.Every.{values, feed_gather}
use Rattle.spinlock.specs.declared.Operation.{Operation as LockOperation}
use Rattle.machine.specs.State.{cpu_slots, lock_count, is_current, no_cpu, no_thread, free_lock, cpu_at, thread_at, lock_at}
use Rattle.machine.specs.declared.Setup.{Setup}
use Rattle.machine.specs.declared.Run.{Run}
use Rattle.machine.specs.declared.Cpu.{Cpu}
use Rattle.machine.specs.declared.Thread.{Thread}
use Rattle.machine.specs.declared.Lock.{Lock}
use Rattle.machine.specs.declared.Machine.{Machine}
use Rattle.record.specs.Record.{request_of}
use Rattle.record.specs.declared.CpuOperation.{CpuOperation}
use Rattle.record.specs.declared.ThreadOperation.{ThreadOperation}
use Rattle.record.specs.declared.Operation.{Operation}
use Rattle.record.specs.declared.Request.{Request}
use Rattle.rules.specs.Rules as Rules
use Rattle.operations.specs.Cells.{run, hold, thread, lock, set_cpu, set_thread, machine_store}
use Rattle.operations.specs.Operations.{one, two, none, with_hold, on_cpu, on_lock, on_thread, operation_by, operation}
use Rattle.operations.specs.Asked.{answered, next}
use Rattle.operations.proofs.EveryLock.{set_locks}
use Rattle.operations.proofs.Unwound.{refused_reply, refused_after, accepted_reply, accepted_after}

-- A CPU and a lock are stored, or a CPU and a thread.
abbrev pub stored_lock : Machine → ℕ → ℕ → Cpu × Lock → Machine
stored_lock m c l k = record { setup = m.setup; cpus = set m.cpus c k.0; threads = m.threads; locks = set m.locks l k.1 }

abbrev pub stored_seat : Machine → ℕ → ℕ → Cpu × Thread → Machine
stored_seat m c t k = record { setup = m.setup; cpus = set m.cpus c k.0; threads = set m.threads t k.1; locks = m.locks }

-- This answer and this machine are the operation's.
abbrev pub Turns : Machine → Op machine_store (Answer ℕ) → Answer ℕ → Machine → Type 0
Turns m o a later = (a ≡ reply machine_store (Answer ℕ) m o) × (later ≡ after machine_store (Answer ℕ) m o)

answer_one : {A W : Type 0} (o : Outcome A W) → answer_of o ≡ answer_of (one o)
answer_one (refuse a) = refl
answer_one (accept a w) = refl

pub answer_two : {A W X : Type 0} (o : Outcome A (W × X)) → answer_of o ≡ answer_of (two o)
answer_two (refuse a) = refl
answer_two (accept a w) = refl

pub answer_hold : (op : LockOperation) (h : ℕ) (o : Outcome (Answer ℕ) Lock) → answer_of o ≡ answer_of (with_hold op h o)
answer_hold op h (refuse a) = refl
answer_hold op h (accept a w) = refl

module _ (m : Machine) (c : ℕ) where
  same_cpu : set m.cpus c (cpu_at m c) ≡ m.cpus
  same_cpu = set-get_or m.cpus c no_cpu

  module _ (t : ℕ) where
    same_thread : set m.threads t (thread_at m t) ≡ m.threads
    same_thread = set-get_or m.threads t no_thread

    leave_seat : stored_seat m c t (cpu_at m c, thread_at m t) ≡ m
    leave_seat = rw (same_cpu, same_thread)

    store_run : (o : Outcome (Answer ℕ) Run)
        → stored_seat m c t (record { run = cells_after (cpu_at m c).run o; hold = (cpu_at m c).hold }, thread_at m t)
        ≡ commit machine_store (Answer ℕ) (run c ∷ []) (one o) m
    store_run (refuse a) = leave_seat
    store_run (accept a v) = rw same_thread

    store_seat : (o : Outcome (Answer ℕ) (Run × Thread))
        → stored_seat m c t
        (record { run = (cells_after ((cpu_at m c).run, thread_at m t) o).0; hold = (cpu_at m c).hold }, (cells_after ((cpu_at m c).run, thread_at m t) o).1)
        ≡ commit machine_store (Answer ℕ) (run c ∷ thread t ∷ []) (two o) m
    store_seat (refuse a) = leave_seat
    store_seat (accept a v) = refl

    -- On a CPU.
    cpu_turn : (op : CpuOperation) → Turns m (on_cpu op c t) (Rules.on_cpu op c t (cpu_at m c) (thread_at m t)).0
        (stored_seat m c t (Rules.on_cpu op c t (cpu_at m c) (thread_at m t)).1)
    unfolding Rules.on_cpu
    cpu_turn CpuOperation.Up = (answer_one (Rules.up (cpu_at m c).run), store_run (Rules.up (cpu_at m c).run))
    cpu_turn CpuOperation.Down = (answer_one (Rules.down (cpu_at m c).run), store_run (Rules.down (cpu_at m c).run))
    cpu_turn CpuOperation.Put =
        let o = Rules.put c t (cpu_at m c).run (thread_at m t) in (answer_two o, store_seat o)
    cpu_turn CpuOperation.Take =
        let o = Rules.take t (cpu_at m c).hold (cpu_at m c).run (thread_at m t) in (answer_two o, store_seat o)

  module _ (l : ℕ) where
    leave_lock : stored_lock m c l (cpu_at m c, lock_at m l) ≡ m
    leave_lock = rw (same_cpu, set-get_or m.locks l free_lock)

    store_lock : (op : LockOperation) (o : Outcome (Answer ℕ) Lock)
        → stored_lock m c l (record { run = (cpu_at m c).run; hold = Rules.hold_after op (cpu_at m c).hold o }, cells_after (lock_at m l) o)
        ≡ commit machine_store (Answer ℕ) (lock l ∷ hold c ∷ []) (with_hold op (cpu_at m c).hold o) m
    store_lock op (refuse a) = leave_lock
    store_lock op (accept a v) = refl

    -- On a lock.
    lock_turn : (op : LockOperation) → Turns m (on_lock m.setup op c l) (Rules.on_lock m.setup op c (cpu_at m c) (lock_at m l)).0
        (stored_lock m c l (Rules.on_lock m.setup op c (cpu_at m c) (lock_at m l)).1)
    unfolding Rules.on_lock
    lock_turn op =
        let o = Rules.lock_op m.setup op c (cpu_at m c).run (lock_at m l) in
        (answer_hold op (cpu_at m c).hold o, store_lock op o)

-- The run cells that ipi is fed are those of the machine's CPUs.
runs_fed : (m : Machine) (k : ℕ) → values machine_store run (λ _ r. r) m k ≡ Rules.runs_of k m.cpus
unfolding values
runs_fed m zero = refl
runs_fed m (suc k) = ap (λ (runs : List Run). runs ++ ((cpu_at m k).run ∷ [])) (runs_fed m k)

-- What ipi answers: the rule on every run cell and the thread. It writes nothing.
pub ipi_rule_says : (m : Machine) (s : Setup) (c t l : ℕ)
    → reply machine_store (Answer ℕ) m (operation_by s Operation.Ipi c t l) ≡ Rules.ipi_of s c m.cpus (thread_at m t)
ipi_rule_says m s c t l =
    ap answer_of (feed_gather machine_store (Outcome (Answer ℕ) (Unit {0})) run (λ _ r. r) cpu_slots (thread t ∷ []) [] (λ runs k. none (Rules.ipi s c runs k)) m)
    ∙ ap (λ (runs : List Run). Rules.ipi s c runs (thread_at m t)) (runs_fed m cpu_slots)

-- An operation that writes no cell leaves the machine.
pub writes_none : (m : Machine) (o : Outcome (Answer ℕ) (Unit {0})) → commit machine_store (Answer ℕ) [] o m ≡ m
writes_none m (refuse a) = refl
writes_none m (accept a w) = refl

module _ (m : Machine) (t : ℕ) where
  store_thread : (o : Outcome (Answer ℕ) Thread) → set_thread m t (cells_after (thread_at m t) o) ≡ commit machine_store (Answer ℕ) (thread t ∷ []) (one o) m
  store_thread (refuse a) = rw (same_thread m 0 t)
  store_thread (accept a v) = refl

  -- On a thread.
  thread_turn : (op : ThreadOperation) (c : ℕ) → Turns m (on_thread m.setup op c t) (Rules.on_thread m.setup op c (thread_at m t)).0
      (set_thread m t (Rules.on_thread m.setup op c (thread_at m t)).1)
  unfolding Rules.on_thread
  thread_turn (ThreadOperation.Mask enable disable) c =
      let o = Rules.mask m.setup enable disable (thread_at m t) in (answer_one o, store_thread o)
  thread_turn ThreadOperation.Pin c = let o = Rules.pin m.setup c (thread_at m t) in (answer_one o, store_thread o)
  thread_turn (ThreadOperation.Priority a) c = let o = Rules.priority a (thread_at m t) in (answer_one o, store_thread o)

-- What the code computes for a record, with its request r and the cells that it loads for r's family, is the answer to the record, and what it
-- stores is the machine after it.
module _ (m : Machine) (bytes : List ℕ) where
  pub record Becomes (a : Answer ℕ) (later : Machine) : Type 0 where
    pub says : a ≡ answered m bytes
    pub leaves : later ≡ next m bytes

  module _ (r : Request) (asks : r ≡ request_of m.setup bytes) where
    becomes : {op : Operation} {a : Answer ℕ} {later : Machine} → r.operation ≡ op
        → Turns m (operation_by m.setup op r.cpu.0 r.thread.0 r.lock.0) a later → Becomes a later
    unfolding answered next
    becomes e turns =
        let same = ap (λ o. operation_by m.setup o r.cpu.0 r.thread.0 r.lock.0) e in
        let asked = ap (operation m.setup) asks in
        record {
          says = turns.0 ∙ ap (reply machine_store (Answer ℕ) m) (sym same ∙ asked);
          leaves = turns.1 ∙ ap (after machine_store (Answer ℕ) m) (sym same ∙ asked);
        }

    pub malformed_turned : r.operation ≡ Operation.Malformed → Becomes (answer EINVAL 0) m
    malformed_turned e = becomes e (refl, refl)

    pub cpu_turned : {op : CpuOperation} → r.operation ≡ Operation.OnCpu op → (o : Answer ℕ × (Cpu × Thread))
        → o ≡ Rules.on_cpu op r.cpu.0 r.thread.0 (cpu_at m r.cpu.0) (thread_at m r.thread.0)
        → Becomes o.0 (stored_seat m r.cpu.0 r.thread.0 o.1)
    cpu_turned {op} e o is = rw is (becomes e (cpu_turn m r.cpu.0 r.thread.0 op))

    pub lock_turned : {op : LockOperation} → r.operation ≡ Operation.OnLock op → (o : Answer ℕ × (Cpu × Lock))
        → o ≡ Rules.on_lock m.setup op r.cpu.0 (cpu_at m r.cpu.0) (lock_at m r.lock.0)
        → Becomes o.0 (stored_lock m r.cpu.0 r.lock.0 o.1)
    lock_turned {op} e o is = rw is (becomes e (lock_turn m r.cpu.0 r.lock.0 op))

    pub thread_turned : {op : ThreadOperation} → r.operation ≡ Operation.OnThread op → (o : Answer ℕ × Thread)
        → o ≡ Rules.on_thread m.setup op r.cpu.0 (thread_at m r.thread.0) → Becomes o.0 (set_thread m r.thread.0 o.1)
    thread_turned {op} e o is = rw is (becomes e (thread_turn m r.thread.0 op r.cpu.0))

    pub ipi_turned : r.operation ≡ Operation.Ipi → (a : Answer ℕ)
        → a ≡ Rules.ipi_of m.setup r.cpu.0 m.cpus (thread_at m r.thread.0) → Becomes a m
    ipi_turned e a is =
        let o = operation_by m.setup Operation.Ipi r.cpu.0 r.thread.0 r.lock.0 in
        becomes e (is ∙ sym (ipi_rule_says m m.setup r.cpu.0 r.thread.0 r.lock.0), sym (writes_none m (result machine_store (Answer ℕ) o m)))

    pub owner_turned : r.operation ≡ Operation.Owner → (a : Answer ℕ) → a ≡ Rules.owner (lock_at m r.lock.0) → Becomes a m
    owner_turned e a is = rw is (becomes e (refl, refl))

    -- An unwind, on a machine with 128 locks: if its answer is OK every lock is given back, else none is looked at.
    module _ (e : r.operation ≡ Operation.Unwind) (all : length m.locks ≡ lock_count) (o : Answer ℕ × Cpu)
        (is : o ≡ Rules.unwound r.thread.0 (cpu_at m r.cpu.0)) where
      abbrev runs : Bool
      runs = is_current (cpu_at m r.cpu.0).run.current r.thread.0

      done : runs ≡ true → o ≡ (answer OK (cpu_at m r.cpu.0).hold, record { run = (cpu_at m r.cpu.0).run; hold = 0 })
      unfolding Rules.unwound
      done now = is ∙ rw now

      denied : runs ≡ false → o ≡ (answer EPERM 0, cpu_at m r.cpu.0)
      unfolding Rules.unwound
      denied now = is ∙ rw now

      pub unwind_turned : is_ok o.0.code ≡ true → (locks : List Lock) → locks ≡ map (Rules.given_back m.setup r.cpu.0) m.locks
          → Becomes o.0 (set_locks (set_cpu m r.cpu.0 o.1) locks)
      unwind_turned ok locks gives = go runs refl
        where
          go : (b : Bool) → runs ≡ b → Becomes o.0 (set_locks (set_cpu m r.cpu.0 o.1) locks)
          go true now =
              rw (done now, gives)
              (becomes e (sym (accepted_reply m r.cpu.0 r.thread.0 all now), sym (accepted_after m r.cpu.0 r.thread.0 all now)))
          go false now = absurd (false≢true (ap (λ (x : Answer ℕ × Cpu). is_ok x.0.code) (sym (denied now)) ∙ ok))

      pub unwind_refused : is_ok o.0.code ≡ false → Becomes o.0 (set_cpu m r.cpu.0 o.1)
      unwind_refused no_Ok = go runs refl
        where
          go : (b : Bool) → runs ≡ b → Becomes o.0 (set_cpu m r.cpu.0 o.1)
          go true now = absurd (false≢true (sym no_Ok ∙ ap (λ (x : Answer ℕ × Cpu). is_ok x.0.code) (done now)))
          go false now =
              rw (denied now, same_cpu m r.cpu.0)
              (becomes e (sym (refused_reply m r.cpu.0 r.thread.0 all now), sym (refused_after m r.cpu.0 r.thread.0 all now)))

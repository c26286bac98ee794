-- Which codes an operation answers with, walked once for whatever is to be shown of them: by the operation, and within a rule by its tests.
-- Assumes nothing.
use Rattle.std.specs.Prelude.{Option, None, Some}
use Rattle.machine.specs.declared.ThreadId.{ThreadId}
use mathlib.Core.Path.{◌≡◌, refl, sym, ap, subst}
use mathlib.Core.Bool.{Bool, true, false, ◌&&◌, ◌||◌, not, cond}
use mathlib.Core.List.{List, []}
use Prim.Native.Nat.{ℕ}
use lib.Dec.{eqb}
use lib.IntN.{ℤ}
use Rattle.error.specs.Codes.{OK, EPERM, EBUSY, EINVAL, EDEADLK, EALREADY, is_ok}
use Rattle.error.specs.Answer.{Answer}
use Rattle.words.specs.Bit.{bit, bit_not}
use Rattle.spinlock.specs.Table.{code_of, code_again}
use Rattle.spinlock.specs.Lock.{valid_record, situation_at, operate, acquire_again}
use Rattle.spinlock.specs.declared.SpinlockState.{SpinlockState}
use Rattle.spinlock.specs.declared.Operation.{Operation as LockOperation}
use Rattle.spinlock.specs.declared.Situation.{Situation}
use Rattle.cpu_mask.specs.Mask.{mask_bits, new_mask, validate_pin_mask, bits_below, cpu_mask_mod}
use Rattle.ipi.specs.Ipi.{max_ipi_cpus, counts_fit, compute_ipi_mask}
use Rattle.order.specs.Outcome.{Outcome, refuse, accept, answer_of}
use Rattle.order.specs.Cells.{Vals, reply}
use Rattle.order.proofs.Every.{values}
use Rattle.machine.specs.State.{cpu_slots, lock_count, is_thread, is_current, cpu_at, thread_at, lock_at}
use Rattle.machine.specs.declared.Setup.{Setup}
use Rattle.machine.specs.declared.Run.{Run}
use Rattle.machine.specs.declared.Thread.{Thread}
use Rattle.machine.specs.declared.Lock.{Lock}
use Rattle.machine.specs.declared.Machine.{Machine}
use Rattle.record.specs.Record.{request_of}
use Rattle.record.specs.declared.CpuOperation.{CpuOperation}
use Rattle.record.specs.declared.ThreadOperation.{ThreadOperation}
use Rattle.record.specs.declared.Operation.{Operation}
use Rattle.rules.specs.Rules as Rules
use Rattle.operations.specs.Cells.{lock, machine_store, every_lock}
use Rattle.operations.specs.Operations.{one, two, with_hold, with_locks, on_cpu, on_lock, on_thread, operation_by}
use Rattle.operations.specs.Asked.{answered}
use Rattle.operations.proofs.Turns.{ipi_rule_says}
use Rattle.operations.proofs.Unwound.{unwind_at, unwind_fed}

-- P holds of each code that an operation may answer with. EDEADLK is a plain acquire's alone.
pub record EachCode (P : ℤ → Type 0) : Type 0 where
  pub ok : P OK
  pub perm : P EPERM
  pub busy : P EBUSY
  pub invalid : P EINVAL
  pub already : P EALREADY

-- What holds both ways of a test holds of the choice.
either : {A : Type 0} (P : A → Type 0) (t : Bool) (x y : A) → P x → P y → P (cond t x y)
either P true x y p q = p
either P false x y p q = q

module _ (P : ℤ → Type 0) (each : EachCode P) where
  -- P holds of an answer's code.
  abbrev Coded : {A : Type 0} → Answer A → Type 0
  Coded a = P a.code

  -- It holds of the code of an outcome's answer.
  abbrev CodedOutcome : {W : Type 0} → Outcome (Answer ℕ) W → Type 0
  CodedOutcome o = Coded (answer_of o)

  -- Operations 0 to 3.
  up_coded : (r : Run) → CodedOutcome (Rules.up r)
  unfolding Rules.up
  up_coded r = either CodedOutcome r.active _ _ each.already each.ok

  down_coded : (r : Run) → CodedOutcome (Rules.down r)
  unfolding Rules.down
  down_coded r =
      either CodedOutcome (not r.active) _ _ each.already
      (either CodedOutcome (Rules.occupied r.current) _ _ each.busy each.ok)

  put_coded : (c t : ℕ) (r : Run) (k : Thread) → CodedOutcome (Rules.put c t r k)
  unfolding Rules.put
  put_coded c t r k =
      either CodedOutcome (not r.active) _ _ each.invalid
      (either CodedOutcome (Rules.occupied r.current || Rules.placed k.place) _ _ each.busy
      (either CodedOutcome (not (bit c k.mask)) _ _ each.invalid each.ok))

  take_coded : (t h : ℕ) (r : Run) (k : Thread) → CodedOutcome (Rules.take t h r k)
  unfolding Rules.take
  take_coded t h r k =
      either CodedOutcome (not (is_current r.current t)) _ _ each.perm
      (either CodedOutcome (not (eqb h 0)) _ _ each.busy each.ok)

  -- Operations 4 and 6, by the table of codes.
  table_code : (op : LockOperation) (sit : Situation) → P (code_of op sit)
  unfolding code_of
  table_code (LockOperation.Acquire nested) Situation.Free = each.ok
  table_code (LockOperation.Acquire false) Situation.Own = each.busy
  table_code (LockOperation.Acquire true) Situation.Own = each.ok
  table_code (LockOperation.Acquire nested) Situation.Full = each.busy
  table_code (LockOperation.Acquire nested) Situation.Foreign = each.busy
  table_code LockOperation.Release Situation.Free = each.perm
  table_code LockOperation.Release Situation.Own = each.ok
  table_code LockOperation.Release Situation.Full = each.ok
  table_code LockOperation.Release Situation.Foreign = each.perm

  operate_coded : (op : LockOperation) (s : SpinlockState) (t : ℕ) (elsewhere : Bool) → Coded (operate op s t elsewhere)
  unfolding operate
  operate_coded op s t elsewhere = either Coded (valid_record s) _ _ (table_code op (situation_at s t elsewhere)) each.invalid

  again_code : P EDEADLK → (sit : Situation) → P (code_again sit)
  unfolding code_again
  again_code dead Situation.Free = each.ok
  again_code dead Situation.Own = dead
  again_code dead Situation.Full = dead
  again_code dead Situation.Foreign = dead

  again_coded : P EDEADLK → (s : SpinlockState) (t : ℕ) → Coded (acquire_again s t)
  unfolding acquire_again
  again_coded dead s t = either Coded (valid_record s) _ _ (again_code dead (situation_at s t false)) each.invalid

  -- It holds of EDEADLK, if the operation is a plain acquire.
  abbrev IfPlain : LockOperation → Type 0
  IfPlain op = op ≡ LockOperation.Acquire false → P EDEADLK

  ruled_coded : (s : Setup) (op : LockOperation) (c t : ℕ) (k : Lock) → IfPlain op → Coded (Rules.ruled s op c t k)
  ruled_coded s (LockOperation.Acquire true) c t k dead = operate_coded (LockOperation.Acquire true) k.state t (Rules.elsewhere s c t k)
  ruled_coded s (LockOperation.Acquire false) c t k dead =
      either Coded (Rules.again s (LockOperation.Acquire false) c k.word) _ _ (again_coded (dead refl) k.state t)
      (operate_coded (LockOperation.Acquire false) k.state t (Rules.elsewhere s c t k))
  ruled_coded s LockOperation.Release c t k dead = operate_coded LockOperation.Release k.state t (Rules.elsewhere s c t k)

  lock_coded : (s : Setup) (op : LockOperation) (c : ℕ) (r : Run) (k : Lock) → IfPlain op → CodedOutcome (Rules.lock_op s op c r k)
  unfolding Rules.lock_op
  lock_coded s op c r k dead = by r.current
    where
      by : (o : Option ThreadId) → CodedOutcome (Rules.lock_by s op c o k)
      by None = each.invalid
      by (Some t) =
          either CodedOutcome (is_thread t.0) _ _
          (either CodedOutcome (is_ok (Rules.ruled s op c t.0 k).code) _ _ each.ok (ruled_coded s op c t.0 k dead)) each.invalid

  -- Operations 7, 8 and 9.
  mod_coded : (current enable disable : ℕ) (running pinOnly : Bool) → Coded (cpu_mask_mod current enable disable running pinOnly)
  unfolding cpu_mask_mod
  mod_coded current enable disable running pinOnly =
      either Coded running _ _ each.invalid
      (either Coded (pinOnly && not (validate_pin_mask (new_mask current enable disable))) _ _ each.invalid each.ok)

  masked_coded : (s : Setup) (enable disable : ℕ) (k : Thread) → Coded (Rules.masked s enable disable k)
  masked_coded s enable disable k = mod_coded k.mask enable disable (Rules.placed k.place) s.pin_only

  remasked_coded : (k : Thread) (a : Answer ℕ) → Coded a → CodedOutcome (Rules.remasked k a)
  remasked_coded k a coded = either CodedOutcome (is_ok a.code) _ _ each.ok coded

  mask_coded : (s : Setup) (enable disable : ℕ) (k : Thread) → CodedOutcome (Rules.mask s enable disable k)
  unfolding Rules.mask
  mask_coded s enable disable k =
      let a = Rules.masked s enable disable k in
      remasked_coded k (Rules.within_cpus s k.mask a)
      (either Coded (s.pin_only && not (bits_below a.value s.n)) _ _ each.invalid (masked_coded s enable disable k))

  pin_coded : (s : Setup) (c : ℕ) (k : Thread) → CodedOutcome (Rules.pin s c k)
  unfolding Rules.pin
  pin_coded s c k =
      let bits = bit_not mask_bits (Rules.cpu_bit c) in
      remasked_coded k (Rules.masked s (Rules.cpu_bit c) bits k) (masked_coded s (Rules.cpu_bit c) bits k)

  priority_coded : (a : ℤ) (k : Thread) → CodedOutcome (Rules.priority a k)
  unfolding Rules.priority
  priority_coded a k = either CodedOutcome (Rules.placed k.place) _ _ each.busy each.ok

  -- Operations 10 and 11.
  ipi_coded : (s : Setup) (c : ℕ) (runs : List Run) (k : Thread) → Coded (Rules.ipi s c runs k)
  unfolding Rules.ipi compute_ipi_mask
  ipi_coded s c runs k = either Coded (counts_fit c s.n max_ipi_cpus) _ _ each.ok each.invalid

  owner_coded : (k : Lock) → Coded (Rules.owner k)
  unfolding Rules.owner
  owner_coded k = each.ok

  -- Operation 12.
  unwind_coded : (s : Setup) (c t : ℕ) (r : Run) (h : ℕ) (locks : List Lock) → CodedOutcome (Rules.unwind s c t r h locks)
  unfolding Rules.unwind
  unwind_coded s c t r h locks = either CodedOutcome (not (is_current r.current t)) _ _ each.perm each.ok

  -- An operation answers what its rule answers.
  one_coded : {W : Type 0} (o : Outcome (Answer ℕ) W) → CodedOutcome o → CodedOutcome (one o)
  one_coded (refuse a) h = h
  one_coded (accept a w) h = h

  two_coded : {W X : Type 0} (o : Outcome (Answer ℕ) (W × X)) → CodedOutcome o → CodedOutcome (two o)
  two_coded (refuse a) h = h
  two_coded (accept a w) h = h

  hold_coded : (op : LockOperation) (h : ℕ) (o : Outcome (Answer ℕ) Lock) → CodedOutcome o → CodedOutcome (with_hold op h o)
  hold_coded op h (refuse a) c = c
  hold_coded op h (accept a k) c = c

  locks_coded : (o : Outcome (Answer ℕ) (ℕ × List Lock)) → CodedOutcome o → CodedOutcome (with_locks o)
  locks_coded (refuse a) c = c
  locks_coded (accept a v) c = c

  module _ (m : Machine) where
    -- The run cell of a CPU.
    abbrev run_of : ℕ → Run
    run_of c = (cpu_at m c).run

    -- The answer to an operation, by its family.
    cpu_request : (op : CpuOperation) (c t : ℕ) → Coded (reply machine_store (Answer ℕ) m (on_cpu op c t))
    cpu_request CpuOperation.Up c t = one_coded (Rules.up (run_of c)) (up_coded (run_of c))
    cpu_request CpuOperation.Down c t = one_coded (Rules.down (run_of c)) (down_coded (run_of c))
    cpu_request CpuOperation.Put c t = two_coded (Rules.put c t (run_of c) (thread_at m t)) (put_coded c t (run_of c) (thread_at m t))
    cpu_request CpuOperation.Take c t =
        let held = (cpu_at m c).hold in
        two_coded (Rules.take t held (run_of c) (thread_at m t)) (take_coded t held (run_of c) (thread_at m t))

    lock_request : (op : LockOperation) (c l : ℕ) → IfPlain op → Coded (reply machine_store (Answer ℕ) m (on_lock m.setup op c l))
    lock_request op c l dead =
        hold_coded op (cpu_at m c).hold (Rules.lock_op m.setup op c (run_of c) (lock_at m l)) (lock_coded m.setup op c (run_of c) (lock_at m l) dead)

    thread_request : (op : ThreadOperation) (c t : ℕ) → Coded (reply machine_store (Answer ℕ) m (on_thread m.setup op c t))
    thread_request (ThreadOperation.Mask enable disable) c t =
        one_coded (Rules.mask m.setup enable disable (thread_at m t)) (mask_coded m.setup enable disable (thread_at m t))
    thread_request ThreadOperation.Pin c t = one_coded (Rules.pin m.setup c (thread_at m t)) (pin_coded m.setup c (thread_at m t))
    thread_request (ThreadOperation.Priority a) c t = one_coded (Rules.priority a (thread_at m t)) (priority_coded a (thread_at m t))

    operation_coded : (op : Operation) (c t l : ℕ) → (op ≡ Operation.OnLock (LockOperation.Acquire false) → P EDEADLK)
        → Coded (reply machine_store (Answer ℕ) m (operation_by m.setup op c t l))
    operation_coded Operation.Malformed c t l dead = each.invalid
    operation_coded (Operation.OnCpu op) c t l dead = cpu_request op c t
    operation_coded (Operation.OnLock op) c t l dead = lock_request op c l (λ plain. dead (ap Operation.OnLock plain))
    operation_coded (Operation.OnThread op) c t l dead = thread_request op c t
    operation_coded Operation.Ipi c t l dead =
        rw (ipi_rule_says m m.setup c t l) (ipi_coded m.setup c (Rules.runs_of cpu_slots m.cpus) (thread_at m t))
    operation_coded Operation.Owner c t l dead = owner_coded (lock_at m l)
    operation_coded Operation.Unwind c t l dead =
        let locks = values machine_store lock (λ _ x. x) m lock_count in
        subst (λ (o : Outcome (Answer ℕ) (ℕ × Vals machine_store (every_lock []))). CodedOutcome o) (sym (unwind_fed m m.setup c t))
        (locks_coded (unwind_at m m.setup c t locks) (unwind_coded m.setup c t (run_of c) (cpu_at m c).hold locks))

    -- So it holds of the code of every answer: of EDEADLK it has to, if the record asks for a plain acquire.
    pub answered_coded : (bytes : List ℕ)
        → ((request_of m.setup bytes).operation ≡ Operation.OnLock (LockOperation.Acquire false) → P EDEADLK) → P (answered m bytes).code
    unfolding answered
    answered_coded bytes dead =
        let r = request_of m.setup bytes in operation_coded r.operation r.cpu.0 r.thread.0 r.lock.0 dead

-- Exclusion: while a lock is held by a thread on a CPU, a plain acquire of it is refused for everyone, and a nested acquire or a release is
-- accepted from that thread on that CPU alone. Assumes nothing.
use Rattle.std.specs.Prelude.{Option, None, Some}
use Rattle.machine.specs.declared.ThreadId.{ThreadId}
use mathlib.Core.Path.{◌≡◌, refl, ap, sym, ◌∙◌}
use mathlib.Core.Bool.{Bool, true, false, cond, false≢true}
use mathlib.Core.List.{List}
use Prim.Native.Nat.{ℕ, ◌<◌}
use Rattle.error.specs.Codes.{EINVAL, is_ok}
use Rattle.error.specs.Answer.{Answer}
use Rattle.words.proofs.Choice.{bool_ind}
use Rattle.spinlock.specs.Lock.{free_record, valid_record, held, operate, acquire_again}
use Rattle.spinlock.specs.declared.SpinlockState.{SpinlockState}
use Rattle.spinlock.specs.declared.Operation.{Operation as LockOperation}
use Rattle.spinlock.proofs.Situations.{HeldBy}
use Rattle.spinlock.proofs.Laws.{acquire_of_held, again_invalid, again_of_held}
use Rattle.order.specs.Outcome.{Outcome, refuse, accept, answer_of}
use Rattle.machine.specs.State.{lock_count, is_thread, cpu_at, lock_at}
use Rattle.machine.specs.declared.CpuId.{CpuId}
use Rattle.machine.specs.declared.LockId.{LockId}
use Rattle.machine.specs.declared.Setup.{Setup}
use Rattle.machine.specs.declared.Lock.{Lock}
use Rattle.machine.specs.declared.Machine.{Machine}
use Rattle.record.specs.Record.{request, request_of}
use Rattle.record.specs.declared.Operation.{Operation}
use Rattle.rules.specs.Rules.{refused, elsewhere, again, ruled, settled, lock_by, lock_op}
use Rattle.wellformed.specs.WellFormed.{well_formed}
use Rattle.wellformed.proofs.Facts.{Runs, WellFormed, says}
use Rattle.operations.specs.Operations.{with_hold}
use Rattle.operations.specs.Asked.{answered}
use Rattle.kept.proofs.Apart.{none_or_owner, same_owner}
use Rattle.kept.proofs.Walk.{Ways, Told, walked}
use Rattle.kept.proofs.Locked.{named, lock_is_valid}
use Rattle.kept.proofs.Ranges.{asks_in_range}
use Rattle.job.specs.Job.{Holder, Accepted}

module _ (m : Machine) (w : WellFormed m) (d l t : ℕ) (hd : d < m.setup.n) (hl : l < lock_count)
    (owned : (lock_at m l).state.owner ≡ Some t) where
  not_free : (lock_at m l).state ≡ free_record → ⊥
  not_free e = none_or_owner (sym (ap (λ (x : SpinlockState). x.owner) e) ∙ owned)

  module _ (u : ℕ) (runs : Runs m d u) where
    holder : HeldBy (lock_at m l).state u → Holder m l d t
    holder mine =
        let same : t ≡ u = same_owner (sym owned ∙ mine.owner) in
        record { thread = rw same runs; cpu = named m w d l u hd hl runs mine.owner }

    ways : Ways m.setup d u (lock_at m l) (λ _ _. Holder m l d t)
    ways =
        record {
          taken = λ _ e. absurd (not_free e);
          deepened = λ mine _. holder mine;
          released = holder;
        }

  told_holder : (op : LockOperation) → Told (λ _. Holder m l d t) (lock_op m.setup op d (cpu_at m d).run (lock_at m l))
  told_holder op = walked m.setup d (cpu_at m d).run (lock_at m l) (lock_is_valid m w l hl) (λ _ _. Holder m l d t) ways op

lock_done : (op : LockOperation) (h : ℕ) (P : Type 0) (o : Outcome (Answer ℕ) Lock) → Told (λ _. P) o
    → is_ok (answer_of (with_hold op h o)).code ≡ true → P
lock_done op h P (refuse a) e ok = absurd (false≢true (sym e ∙ ok))
lock_done op h P (accept a v) q ok = q.1

-- A plain acquire of a held lock is refused for everyone: by its record, whatever thread runs on the CPU.
record_refuses : (s : SpinlockState) (tid : ℕ) (elsewhere : Bool) → held s.owner ≡ true → is_ok (operate (LockOperation.Acquire false) s tid elsewhere).code ≡ false
unfolding operate
record_refuses s tid elsewhere taken =
    bool_ind (λ valid. valid_record s ≡ valid → is_ok (operate (LockOperation.Acquire false) s tid elsewhere).code ≡ false) (valid_record s)
    (λ _ valid. ap (λ (a : Answer SpinlockState). is_ok a.code) (acquire_of_held s tid elsewhere valid taken)) (λ _ bad. rw bad) refl

again_refuses : (s : SpinlockState) (tid : ℕ) → held s.owner ≡ true → is_ok (acquire_again s tid).code ≡ false
again_refuses s tid taken =
    bool_ind (λ valid. valid_record s ≡ valid → is_ok (acquire_again s tid).code ≡ false) (valid_record s)
    (λ _ valid. ap (λ (a : Answer SpinlockState). is_ok a.code) (again_of_held s tid valid taken))
    (λ _ bad. ap (λ (a : Answer SpinlockState). is_ok a.code) (again_invalid s tid bad)) refl

-- Again or not.
ruled_refuses : (s : Setup) (c t : ℕ) (k : Lock) → held k.state.owner ≡ true
    → is_ok (ruled s (LockOperation.Acquire false) c t k).code ≡ false
ruled_refuses s c t k taken =
    let plain = operate (LockOperation.Acquire false) k.state t (elsewhere s c t k) in
    bool_ind (λ b. is_ok (cond b (acquire_again k.state t) plain).code ≡ false) (again s (LockOperation.Acquire false) c k.word)
    (λ _. again_refuses k.state t taken) (λ _. record_refuses k.state t (elsewhere s c t k) taken)

rule_refuses : (s : Setup) (c : ℕ) (current : Option ThreadId) (k : Lock) → held k.state.owner ≡ true
    → is_ok (answer_of (lock_by s (LockOperation.Acquire false) c current k)).code ≡ false
rule_refuses s c None k taken = refl
rule_refuses s c (Some t) k taken =
    let no_Ok = ruled_refuses s c t.0 k taken in
    let settles = settled s c t.0 k (ruled s (LockOperation.Acquire false) c t.0 k) in
    bool_ind (λ exists. is_ok (answer_of (cond exists settles (refused EINVAL k.state.nest_count))).code ≡ false) (is_thread t.0)
    (λ _. rw no_Ok no_Ok) (λ _. refl)

hold_refuses : (op : LockOperation) (h : ℕ) (o : Outcome (Answer ℕ) Lock) → is_ok (answer_of o).code ≡ false
    → is_ok (answer_of (with_hold op h o)).code ≡ false
hold_refuses op h (refuse a) e = e
hold_refuses op h (accept a v) e = e

-- Lock l has an owner. On any machine a record that asks for a plain acquire of it is refused. (It uses no thread: its number z is any.)
pub acquire_refused : (m : Machine) (bytes : List ℕ) (d : CpuId) (l : LockId) {z : ℕ} → held (lock_at m l.0).state.owner ≡ true
    → request_of m.setup bytes ≡ request (Operation.OnLock (LockOperation.Acquire false)) d.0 z l.0 → is_ok (answered m bytes).code ≡ false
unfolding answered lock_op
acquire_refused m bytes d l taken asks =
    let k = lock_at m l.0 in
    let r = (cpu_at m d.0).run in
    rw asks
    (hold_refuses (LockOperation.Acquire false) (cpu_at m d.0).hold (lock_op m.setup (LockOperation.Acquire false) d.0 r k)
    (rule_refuses m.setup d.0 r.current k taken))

-- Lock l is held by thread t. Whoever has a call of it accepted is t, on the CPU that the lock's word names. (A call of a lock uses no thread:
-- its number z is any.)
module _ (m : Machine) (good : well_formed m ≡ true) (bytes : List ℕ) (d : CpuId) (l : LockId) (t : ℕ)
    (owned : (lock_at m l.0).state.owner ≡ Some t) where
  -- Whatever the operation.
  pub called_by_holder : (op : LockOperation) {z : ℕ} → Accepted m bytes (request (Operation.OnLock op) d.0 z l.0) → Holder m l.0 d.0 t
  unfolding answered
  called_by_holder op a =
      let w = says m good in
      let range = rw a.asks at (asks_in_range m w bytes) in
      lock_done op (cpu_at m d.0).hold (Holder m l.0 d.0 t) (lock_op m.setup op d.0 (cpu_at m d.0).run (lock_at m l.0))
      (told_holder m w d.0 l.0 t range.cpu range.lock owned op) (rw a.asks at a.ok)

  -- So it is for a nested acquire.
  pub nested_by_holder : {z : ℕ} → Accepted m bytes (request (Operation.OnLock (LockOperation.Acquire true)) d.0 z l.0) → Holder m l.0 d.0 t
  nested_by_holder a = called_by_holder (LockOperation.Acquire true) a

  -- So it is for a release.
  pub released_by_holder : {z : ℕ} → Accepted m bytes (request (Operation.OnLock LockOperation.Release) d.0 z l.0) → Holder m l.0 d.0 t
  released_by_holder a = called_by_holder LockOperation.Release a

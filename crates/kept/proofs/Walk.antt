-- What the lock's rule accepts, walked once for whatever is to be shown of the lock that it hands back. By the lock's situation to the CPU's
-- current thread a free lock is taken, an own one goes a level up or down, and every other call is refused: an own lock that was taken on
-- another CPU is foreign, and a held lock is no plain acquire's, again or not. Assumes nothing.
use Rattle.std.specs.Prelude.{Option, None, Some}
use Rattle.machine.specs.declared.ThreadId.{ThreadId}
use mathlib.Core.Path.{◌≡◌, refl}
use mathlib.Core.Bool.{Bool, true, false, cond, false≢true}
use Prim.Native.Nat.{ℕ, ◌<◌}
use Rattle.error.specs.Codes.{EINVAL, is_ok}
use Rattle.error.specs.Answer.{Answer, answer}
use Rattle.words.proofs.Choice.{bool_ind}
use Rattle.spinlock.specs.Table.{code_of, code_again}
use Rattle.spinlock.specs.Lock.{max_nest_depth, free_record, taken_by, deeper, shallower, valid_record, after, operate, acquire_again}
use Rattle.spinlock.specs.declared.SpinlockState.{SpinlockState}
use Rattle.spinlock.specs.declared.Operation.{Operation}
use Rattle.spinlock.specs.declared.Situation.{Situation}
use Rattle.spinlock.proofs.Situations.{HeldBy, View, free, own, full, foreign, view}
use Rattle.spinlock.proofs.Laws.{operated, again_by}
use Rattle.order.specs.Outcome.{Outcome, refuse, accept}
use Rattle.machine.specs.State.{is_thread}
use Rattle.machine.specs.declared.Setup.{Setup}
use Rattle.machine.specs.declared.Lock.{Lock}
use Rattle.machine.specs.declared.Run.{Run}
use Rattle.rules.specs.Rules.{refused, done, elsewhere, again, ruled, word_after, settled, lock_by, lock_op}
use Rattle.kept.proofs.Accepted.{Accepting}

-- The lock that an accepted operation leaves with this record.
abbrev pub leaves : Setup → ℕ → ℕ → Lock → SpinlockState → Lock
leaves s c t lock next = record { state = next; word = word_after s c t lock next }

-- Q holds of it, in each of the ways in which an operation is accepted.
pub record Ways (s : Setup) (c t : ℕ) (lock : Lock) (Q : Operation → Lock → Type 0) : Type 0 where
  pub taken : (nested : Bool) → lock.state ≡ free_record → Q (Operation.Acquire nested) (leaves s c t lock (taken_by t))
  pub deepened : HeldBy lock.state t → lock.state.nest_count < max_nest_depth
      → Q (Operation.Acquire true) (leaves s c t lock (deeper lock.state))
  pub released : HeldBy lock.state t → Q Operation.Release (leaves s c t lock (shallower lock.state))

module _ (s : Setup) (c t : ℕ) (lock : Lock) (valid : valid_record lock.state ≡ true) (Q : Operation → Lock → Type 0)
    (ways : Ways s c t lock Q) where
  by_view : (op : Operation) {sit : Situation} → View lock.state t sit
      → Accepting (Q op) (settled s c t lock (answer (code_of op sit) (after op sit lock.state t)))
  unfolding code_of after
  by_view (Operation.Acquire nested) (free e) = ways.taken nested e
  by_view (Operation.Acquire false) (own _ _) = tt
  by_view (Operation.Acquire true) (own mine below) = ways.deepened mine below
  by_view (Operation.Acquire nested) (full _ _) = tt
  by_view (Operation.Acquire nested) (foreign _ _) = tt
  by_view Operation.Release (free e) = tt
  by_view Operation.Release (own mine _) = ways.released mine
  by_view Operation.Release (full mine _) = ways.released mine
  by_view Operation.Release (foreign _ _) = tt

  again_by_view : {sit : Situation} → View lock.state t sit
      → Accepting (Q (Operation.Acquire false)) (settled s c t lock (answer (code_again sit) (after (Operation.Acquire false) sit lock.state t)))
  unfolding code_again after
  again_by_view (free e) = ways.taken false e
  again_by_view (own _ _) = tt
  again_by_view (full _ _) = tt
  again_by_view (foreign _ _) = tt

  -- A plain acquire alone is one again.
  by_again : (op : Operation) → again s op c lock.word ≡ true → Accepting (Q op) (settled s c t lock (acquire_again lock.state t))
  by_again (Operation.Acquire true) e = absurd (false≢true e)
  by_again (Operation.Acquire false) e = rw (again_by lock.state t valid refl) (again_by_view (view lock.state t false valid))
  by_again Operation.Release e = absurd (false≢true e)

  by_rule : (op : Operation) → Accepting (Q op) (settled s c t lock (ruled s op c t lock))
  by_rule op =
      let away = elsewhere s c t lock in
      let rule = operate op lock.state t away in
      bool_ind (λ b. Accepting (Q op) (settled s c t lock (cond b (acquire_again lock.state t) rule))) (again s op c lock.word) (by_again op)
      (λ _. rw (operated op lock.state t away valid refl) (by_view op (view lock.state t away valid)))

-- A refusal has another code than OK; what is accepted has OK, and Q.
abbrev pub Told : (Lock → Type 0) → Outcome (Answer ℕ) Lock → Type 0
Told Q (refuse a) = is_ok a.code ≡ false
Told Q (accept a v) = (is_ok a.code ≡ true) × Q v

module _ (Q : Lock → Type 0) (s : Setup) (c t : ℕ) (lock : Lock) (a : Answer SpinlockState) where
  abbrev outcome : Bool → Outcome (Answer ℕ) Lock
  outcome b = cond b (done a.value.nest_count (leaves s c t lock a.value)) (refused a.code a.value.nest_count)

  told : (b : Bool) → is_ok a.code ≡ b → Accepting Q (outcome b) → Told Q (outcome b)
  told true e q = (refl, q)
  told false e q = e

  settled_told : Accepting Q (settled s c t lock a) → Told Q (settled s c t lock a)
  settled_told q = told (is_ok a.code) refl q

-- The walk: what the rule tells of an operation by the CPU's current thread.
pub walked : (s : Setup) (c : ℕ) (run : Run) (lock : Lock) → valid_record lock.state ≡ true → (Q : Operation → Lock → Type 0)
    → ((t : ℕ) → run.current ≡ Some (record { 0 = t }) → Ways s c t lock Q) → (op : Operation)
    → Told (Q op) (lock_op s op c run lock)
unfolding lock_op
walked s c run lock valid Q ways op = go run.current refl
  where
    go : (o : Option ThreadId) → run.current ≡ o → Told (Q op) (lock_by s op c o lock)
    go None e = refl
    go (Some t) e =
        let rule = ruled s op c t.0 lock in
        bool_ind (λ b. Told (Q op) (cond b (settled s c t.0 lock rule) (refused EINVAL lock.state.nest_count))) (is_thread t.0)
        (λ _. settled_told (Q op) s c t.0 lock rule (by_rule s c t.0 lock valid Q (ways t.0 e) op)) (λ _. refl)

pub told_accepting : (Q : Lock → Type 0) (o : Outcome (Answer ℕ) Lock) → Told Q o → Accepting Q o
told_accepting Q (refuse a) e = tt
told_accepting Q (accept a v) q = q.1

-- Self-deadlocks: how a plain acquire is answered on a well-formed machine, by who holds the lock (`plain_answered`). The owner word names the
-- CPU that its owner runs on, so what spin_lock_valid says of the word it says of the holder. Assumes nothing.
use Rattle.std.specs.Prelude.{Option, None, Some}
use mathlib.Core.Path.{◌≡◌, refl, ap, sym, subst, ◌∙◌}
use mathlib.Core.Bool.{Bool, true, false, not, cond, false≢true}
use mathlib.Core.List.{List}
use Prim.Native.Nat.{ℕ, ◌<◌}
use native.Mathlib.Omega.{arith}
use lib.Dec.{eqb}
use lib.IntN.{ℤ, nat_abs}
use borrow.Author.Tests.{lt-ltb, eq-eqb, ne_eqb, eqb-true}
use Rattle.error.specs.Codes.{EBUSY, EDEADLK}
use Rattle.error.specs.Answer.{answer}
use Rattle.error.proofs.Answers.{same_code}
use Rattle.words.specs.Tag.{cpu_of}
use Rattle.words.proofs.Choice.{and_right}
use Rattle.spinlock.specs.Table.{code_of}
use Rattle.spinlock.specs.Lock.{held, after, situation_at}
use Rattle.spinlock.specs.declared.Situation.{Situation}
use Rattle.spinlock.specs.declared.Operation.{Operation as LockOperation}
use Rattle.spinlock.proofs.Laws.{operated, acquire_of_held, again_of_held}
use Rattle.order.specs.Outcome.{answer_of}
use Rattle.machine.specs.State.{thread_count, lock_count, is_thread, tag_bits, names, cpu_at, lock_at}
use Rattle.machine.specs.declared.ThreadId.{ThreadId}
use Rattle.machine.specs.declared.Machine.{Machine}
use Rattle.record.specs.Record.{request_of}
use Rattle.record.specs.declared.Operation.{Operation}
use Rattle.record.specs.declared.Request.{Request}
use Rattle.rules.specs.Rules.{elsewhere, again, ruled, settled, lock_by, lock_op}
use Rattle.wellformed.specs.WellFormed.{well_formed}
use Rattle.wellformed.proofs.Facts.{WellFormed, says}
use Rattle.operations.specs.Asked.{answered}
use Rattle.operations.proofs.Turns.{answer_hold}
use Rattle.operations.proofs.Codes.{EachCode, answered_coded}
use Rattle.kept.proofs.Depths.{held_word}
use Rattle.kept.proofs.Locked.{lock_is_valid}
use Rattle.kept.proofs.Ranges.{asks_in_range}
use Rattle.kept.proofs.Tagged.{names_not_valid}
use Rattle.job.specs.Deadlock.{Holds, HeldByAnother, by_owner, by_current, plain_answer}

-- A plain acquire.
abbrev plain : LockOperation
plain = LockOperation.Acquire false

module _ (m : Machine) (w : WellFormed m) (c l : ℕ) (hc : c < m.setup.n) (hl : l < lock_count) where
  -- Whether it is one again is whether the word names the CPU.
  again_names : again m.setup plain c (lock_at m l).word ≡ names m.setup (lock_at m l).word c
  again_names = names_not_valid m w c hc (lock_at m l).word

  abbrev depth : ℕ
  depth = (lock_at m l).state.nest_count

  -- What thread u's plain acquire comes to, by the lock's owner.
  abbrev Settles : ℕ → Option ℕ → Bool → Type 0
  Settles u o itself = answer_of (settled m.setup c u (lock_at m l) (ruled m.setup plain c u (lock_at m l))) ≡ by_owner o itself depth

  free_taken : (u : ℕ) → (lock_at m l).state.owner ≡ None → Settles u None (names m.setup (lock_at m l).word c)
  unfolding situation_at code_of after
  free_taken u none =
      let unnamed : names m.setup (lock_at m l).word c ≡ false = rw ((w.locks l hl).free none).word in
      let away = elsewhere m.setup c u (lock_at m l) in
      let rule = operated plain (lock_at m l).state u away {sit = Situation.Free} (lock_is_valid m w l hl) (rw none) in
      rw (again_names ∙ unnamed, rule)

  held_refused : (u t : ℕ) → (lock_at m l).state.owner ≡ Some t → (itself : Bool) → names m.setup (lock_at m l).word c ≡ itself
      → Settles u (Some t) itself
  held_refused u t owned true named = rw (again_names ∙ named, again_of_held (lock_at m l).state u (lock_is_valid m w l hl) (ap held owned))
  held_refused u t owned false other =
      let away = elsewhere m.setup c u (lock_at m l) in
      rw (again_names ∙ other, acquire_of_held (lock_at m l).state u away (lock_is_valid m w l hl) (ap held owned))

  of_owner : (u : ℕ) (o : Option ℕ) → (lock_at m l).state.owner ≡ o → Settles u o (names m.setup (lock_at m l).word c)
  of_owner u None none = free_taken u none
  of_owner u (Some t) owned = held_refused u t owned (names m.setup (lock_at m l).word c) refl

  of_current : (o : Option ThreadId) → (cpu_at m c).run.current ≡ o
      → answer_of (lock_by m.setup plain c o (lock_at m l))
      ≡ by_current o depth (by_owner (lock_at m l).state.owner (names m.setup (lock_at m l).word c) depth)
  of_current None idle = refl
  of_current (Some u) runs =
      let below = ((w.seats.cpus c (omega (arith, hc, w.size.few))).current u runs).below in
      let there : is_thread u.0 ≡ true = lt-ltb u.0 thread_count below in
      rw there (of_owner u.0 (lock_at m l).state.owner refl)

-- The CPU that a held lock's word names holds it.
word_holds : (m : Machine) → WellFormed m → (l t : ℕ) → l < lock_count → (lock_at m l).state.owner ≡ Some t
    → Holds m (cpu_of (tag_bits m.setup) (lock_at m l).word) l
word_holds m w l t hl owned =
    record { thread = t; owner = owned; holder = record { thread = ((w.locks l hl).held t owned).current; cpu = refl } }

-- EDEADLK is the number -45, EBUSY is -16, and no other code is either.
abbrev is_deadlock : ℤ → Bool
is_deadlock code = eqb (nat_abs code) 45

abbrev is_busy : ℤ → Bool
is_busy code = eqb (nat_abs code) 16

module _ (m : Machine) (formed : well_formed m ≡ true) (bytes : List ℕ) where
  abbrev asked : Request
  asked = request_of m.setup bytes

  abbrev cpu : ℕ
  cpu = asked.cpu.0

  abbrev lock : ℕ
  lock = asked.lock.0

  pub plain_answered : asked.operation ≡ Operation.OnLock plain → answered m bytes ≡ plain_answer m cpu lock
  unfolding answered lock_op
  plain_answered asks =
      let w = says m formed in
      let range = asks_in_range m w bytes in
      let rule = lock_op m.setup plain cpu (cpu_at m cpu).run (lock_at m lock) in
      rw asks
      (sym (answer_hold plain (cpu_at m cpu).hold rule)
      ∙ of_current m w cpu lock range.cpu range.lock (cpu_at m cpu).run.current refl)

  -- EDEADLK is given to a plain acquire alone.
  pub deadlock_is_plain : (answered m bytes).code ≡ EDEADLK → asked.operation ≡ Operation.OnLock plain
  deadlock_is_plain = answered_coded (λ code. code ≡ EDEADLK → asked.operation ≡ Operation.OnLock plain) others m bytes (λ asks _. asks)
    where
      others : EachCode (λ code. code ≡ EDEADLK → asked.operation ≡ Operation.OnLock plain)
      others =
          record {
            ok = λ e. absurd (false≢true (ap is_deadlock e));
            perm = λ e. absurd (false≢true (ap is_deadlock e));
            busy = λ e. absurd (false≢true (ap is_deadlock e));
            invalid = λ e. absurd (false≢true (ap is_deadlock e));
            already = λ e. absurd (false≢true (ap is_deadlock e));
          }

  abbrev named : Bool
  named = names m.setup (lock_at m lock).word cpu

  abbrev word_cpu : ℕ
  word_cpu = cpu_of (tag_bits m.setup) (lock_at m lock).word

  -- Of a lock with this owner: who is told EDEADLK holds it, and who is told EBUSY does not.
  module _ (t : ℕ) (owned : (lock_at m lock).state.owner ≡ Some t) where
    held_by_word : Holds m word_cpu lock
    held_by_word = let w = says m formed in word_holds m w lock t (asks_in_range m w bytes).lock owned

    deadlocked : (itself : Bool) → named ≡ itself → cond itself EDEADLK EBUSY ≡ EDEADLK → Holds m cpu lock
    deadlocked true e code =
        subst (λ (c : ℕ). Holds m c lock) (eqb-true word_cpu cpu (and_right (not (eqb (lock_at m lock).word 0)) _ e)) held_by_word
    deadlocked false e code = absurd (false≢true (ap is_deadlock code))

    contended : (itself : Bool) → named ≡ itself → cond itself EDEADLK EBUSY ≡ EBUSY → word_cpu ≡ cpu → ⊥
    contended true e code same = false≢true (sym (ap is_deadlock code))
    contended false e code same =
        let w = says m formed in
        let some = held_word m.setup (lock_at m lock) t ((w.locks lock (asks_in_range m w bytes).lock).held t owned) in
        false≢true (sym e ∙ rw (ne_eqb (lock_at m lock).word 0 some, eq-eqb word_cpu cpu same))

  -- By who runs on the CPU and who owns the lock.
  deadlock_by : (o : Option ThreadId) (p : Option ℕ) → (lock_at m lock).state.owner ≡ p
      → (by_current o (lock_at m lock).state.nest_count (by_owner p named (lock_at m lock).state.nest_count)).code ≡ EDEADLK → Holds m cpu lock
  deadlock_by None p e code = absurd (false≢true (ap is_deadlock code))
  deadlock_by (Some u) None e code = absurd (false≢true (ap is_deadlock code))
  deadlock_by (Some u) (Some t) e code = deadlocked t e named refl code

  -- Who is told EDEADLK asked for a lock that it holds itself.
  pub deadlock_holds : (answered m bytes).code ≡ EDEADLK → Holds m cpu lock
  deadlock_holds dead =
      let answer = plain_answered (deadlock_is_plain dead) in
      deadlock_by (cpu_at m cpu).run.current (lock_at m lock).state.owner refl (sym (same_code answer) ∙ dead)

  busy_by : (o : Option ThreadId) (p : Option ℕ) → (lock_at m lock).state.owner ≡ p
      → (by_current o (lock_at m lock).state.nest_count (by_owner p named (lock_at m lock).state.nest_count)).code ≡ EBUSY
      → HeldByAnother m cpu lock
  busy_by None p e code = absurd (false≢true (ap is_busy code))
  busy_by (Some u) None e code = absurd (false≢true (ap is_busy code))
  busy_by (Some u) (Some t) e code =
      record { cpu = word_cpu; other = contended t e named refl code; holds = held_by_word t e }

  -- Whose plain acquire is told EBUSY asked for a lock that another CPU holds.
  pub busy_elsewhere : asked.operation ≡ Operation.OnLock plain → (answered m bytes).code ≡ EBUSY → HeldByAnother m cpu lock
  busy_elsewhere asks busy =
      let answer = plain_answered asks in
      busy_by (cpu_at m cpu).run.current (lock_at m lock).state.owner refl (sym (same_code answer) ∙ busy)

  -- Whether the word names the CPU, of a lock that some CPU holds.
  names_holder : (c : ℕ) (holds : Holds m c lock) → named ≡ eqb c cpu
  names_holder c holds =
      let w = says m formed in
      let held = (w.locks lock (asks_in_range m w bytes).lock).held holds.thread holds.owner in
      rw (ne_eqb (lock_at m lock).word 0 (held_word m.setup (lock_at m lock) holds.thread held), holds.holder.cpu)

  -- So a plain acquire of it is answered, to a CPU that has a thread.
  pub held_answered : asked.operation ≡ Operation.OnLock plain → (c : ℕ) → Holds m c lock → (u : ThreadId)
      → (cpu_at m cpu).run.current ≡ Some u
      → answered m bytes ≡ answer (cond (eqb c cpu) EDEADLK EBUSY) (lock_at m lock).state.nest_count
  held_answered asks c holds u runs = plain_answered asks ∙ rw (runs, holds.owner, names_holder c holds)

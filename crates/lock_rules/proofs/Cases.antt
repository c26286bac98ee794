-- What the lock's rule comes to, done or refused, for a thread on a CPU, over plain variables. Assumes nothing.
use Rattle.std.specs.Prelude.{Some}
use mathlib.Core.Path.{◌≡◌, subst, ◌∙◌}
use mathlib.Core.Bool.{true}
use Prim.Native.Nat.{ℕ}
use Rattle.error.specs.Codes.{OK, refusal_number}
use Rattle.error.specs.Answer.{Answer, answer}
use Rattle.error.specs.declared.Refusal.{Refusal}
use Rattle.error.proofs.Answers.{refusal_refuses}
use Rattle.spinlock.specs.declared.Operation.{Operation}
use Rattle.spinlock.specs.declared.SpinlockState.{SpinlockState}
use Rattle.machine.specs.State.{is_thread}
use Rattle.machine.specs.declared.ThreadId.{ThreadId}
use Rattle.machine.specs.declared.Setup.{Setup}
use Rattle.machine.specs.declared.Cpu.{Cpu}
use Rattle.machine.specs.declared.Lock.{Lock}
use Rattle.rules.specs.Rules.{ruled, word_after, settled, lock_op, moved, with_lock, on_lock}

module _ (s : Setup) (op : Operation) (c : ℕ) (cpu : Cpu) (lock : Lock) {t : ThreadId} (runs : cpu.run.current ≡ Some t)
    (there : is_thread t.0 ≡ true) where
  by_thread : {after : Answer ℕ × (Cpu × Lock)} → after ≡ with_lock op cpu lock (settled s c t.0 lock (ruled s op c t.0 lock))
      → after ≡ on_lock s op c cpu lock
  unfolding on_lock lock_op
  by_thread is = is ∙ rw (runs, there)

  pub settles_refused : (why : Refusal) → answer (refusal_number why) lock.state ≡ ruled s op c t.0 lock
      → (answer (refusal_number why) lock.state.nest_count, (cpu, lock)) ≡ on_lock s op c cpu lock
  settles_refused why is =
      by_thread
      (subst
      (λ (rule : Answer SpinlockState). ◌≡◌ {A = Answer ℕ × (Cpu × Lock)} (answer (refusal_number why) lock.state.nest_count, (cpu, lock))
      (with_lock op cpu lock (settled s c t.0 lock rule)))
      is (rw (refusal_refuses why)))

  pub settles_done : (next : SpinlockState) {word hold : ℕ} → answer OK next ≡ ruled s op c t.0 lock → word ≡ word_after s c t.0 lock next
      → hold ≡ moved op cpu.hold
      → (answer OK next.nest_count, (record { run = cpu.run; hold = hold }, record { state = next; word = word })) ≡ on_lock s op c cpu lock
  settles_done next {word} {hold} is made by =
      by_thread
      (subst
      (λ (rule : Answer SpinlockState). ◌≡◌ {A = Answer ℕ × (Cpu × Lock)}
      (answer OK next.nest_count, (record { run = cpu.run; hold = hold }, record { state = next; word = word }))
      (with_lock op cpu lock (settled s c t.0 lock rule)))
      is (rw (made, by)))

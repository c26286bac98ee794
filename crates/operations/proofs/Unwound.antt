-- What an unwind comes to on a machine with 128 locks, and the machine after it. Assumes nothing.
use mathlib.Core.Path.{◌≡◌, ap, ◌∙◌}
use mathlib.Core.Bool.{true, false}
use mathlib.Core.List.{List, [], ◌∷◌, map}
use Prim.Native.Nat.{ℕ}
use lib.ListN.{length, length-map}
use Rattle.error.specs.Codes.{OK, EPERM}
use Rattle.error.specs.Answer.{Answer, answer}
use Rattle.order.specs.Outcome.{Outcome, accept, answer_of}
use Rattle.order.specs.Cells.{Vals, result, commit, after, reply}
use Rattle.order.proofs.Every.{values, feed_collect}
use Rattle.machine.specs.State.{lock_count, is_current, cpu_at}
use Rattle.machine.specs.declared.Setup.{Setup}
use Rattle.machine.specs.declared.Lock.{Lock}
use Rattle.machine.specs.declared.Machine.{Machine}
use Rattle.rules.specs.Rules as Rules
use Rattle.operations.specs.Cells.{hold, lock, set_cpu, put, machine_store, every_lock, as_locks}
use Rattle.operations.specs.Operations.{with_locks, unwinding}
use Rattle.operations.proofs.EveryLock.{set_locks, locks_fed, locks_stored}

-- The machine after CPU c gave back all that it had.
abbrev pub unwound_machine : Machine → ℕ → Machine
unwound_machine m c =
    set_locks (set_cpu m c (record { run = (cpu_at m c).run; hold = 0 })) (map (Rules.given_back m.setup c) m.locks)

-- The rule on the CPU's cells and these locks.
abbrev pub unwind_at : Machine → Setup → ℕ → ℕ → List Lock → Outcome (Answer ℕ) (ℕ × List Lock)
unwind_at m s c t locks = Rules.unwind s c t (cpu_at m c).run (cpu_at m c).hold locks

-- On every machine it is the rule on the locks that are fed to it.
pub unwind_fed : (m : Machine) (s : Setup) (c t : ℕ)
    → result machine_store (Answer ℕ) (unwinding s c t) m ≡ with_locks (unwind_at m s c t (values machine_store lock (λ _ x. x) m lock_count))
unwind_fed m s c t =
    feed_collect machine_store (Outcome (Answer ℕ) (ℕ × Vals machine_store (every_lock []))) lock (λ _ x. x) lock_count []
    (λ locks. with_locks (unwind_at m s c t locks)) m

module _ (m : Machine) (c t : ℕ) (all : length m.locks ≡ lock_count) where
  is : result machine_store (Answer ℕ) (unwinding m.setup c t) m ≡ with_locks (unwind_at m m.setup c t m.locks)
  is = unwind_fed m m.setup c t ∙ ap (λ (locks : List Lock). with_locks (unwind_at m m.setup c t locks)) (locks_fed m all)

  -- The locks are stored, and then the hold.
  stored : (a : Answer ℕ)
      → commit machine_store (Answer ℕ) (hold c ∷ every_lock []) (accept a (0, as_locks [] (map (Rules.given_back m.setup c) m.locks) tt)) m
      ≡ unwound_machine m c
  stored a =
      let back = map (Rules.given_back m.setup c) m.locks in
      ap (put (hold c) 0) (locks_stored [] tt back m (length-map m.locks (Rules.given_back m.setup c) ∙ all) all)

  -- Refused: another thread is current, or none.
  module _ (e : is_current (cpu_at m c).run.current t ≡ false) where
    pub refused_reply : reply machine_store (Answer ℕ) m (unwinding m.setup c t) ≡ answer EPERM 0
    unfolding Rules.unwind
    refused_reply = ap answer_of is ∙ rw e

    pub refused_after : after machine_store (Answer ℕ) m (unwinding m.setup c t) ≡ m
    unfolding Rules.unwind
    refused_after = ap (λ o. commit machine_store (Answer ℕ) (hold c ∷ every_lock []) o m) is ∙ rw e

  -- Accepted: the hold before, and all given back.
  module _ (e : is_current (cpu_at m c).run.current t ≡ true) where
    pub accepted_reply : reply machine_store (Answer ℕ) m (unwinding m.setup c t) ≡ answer OK (cpu_at m c).hold
    unfolding Rules.unwind
    accepted_reply = ap answer_of is ∙ rw e

    pub accepted_after : after machine_store (Answer ℕ) m (unwinding m.setup c t) ≡ unwound_machine m c
    unfolding Rules.unwind
    accepted_after =
        ap (λ o. commit machine_store (Answer ℕ) (hold c ∷ every_lock []) o m) is ∙ rw e (stored (answer OK (cpu_at m c).hold))

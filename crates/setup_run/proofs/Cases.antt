-- The two ways in which a setup byte and a log are answered, over plain variables, and what a caller knows of either. Assumes nothing.
use mathlib.Core.Path.{◌≡◌, refl, sym, ap, ◌∙◌}
use mathlib.Core.Bool.{true, false, cond, false≢true}
use mathlib.Core.List.{List}
use Prim.Native.Nat.{ℕ}
use lib.IntN.{ℤ}
use lib.ListN.{length}
use Rattle.error.specs.Codes.{OK, refusal_number, is_ok}
use Rattle.error.specs.Answer.{answer}
use Rattle.error.specs.declared.Refusal.{Refusal}
use Rattle.error.proofs.Answers.{same_code, same_value, refusal_refuses}
use Rattle.machine.specs.State.{least_machine, setup}
use Rattle.machine.specs.declared.Machine.{Machine}
use Rattle.runner.specs.Run.{ran, ran_room}
use Rattle.runner.proofs.Refused.{refused_room}
use Rattle.words.proofs.Choice.{bool_ind}
use Rattle.setup_run.specs.Run.{code_from_setup, room_from_setup}

-- What the contract says of a code and a room.
abbrev pub Runs : ℕ → List ℕ → List ℕ → ℤ → List ℕ → Type 0
Runs byte log room code after = (code ≡ code_from_setup byte log (length room)) × (after ≡ room_from_setup byte log room)

module _ (byte : ℕ) (log room : List ℕ) where
  pub bad_setup : (why : Refusal) → answer (refusal_number why) least_machine ≡ setup byte → Runs byte log room (refusal_number why) room
  unfolding code_from_setup room_from_setup
  bad_setup why e = (simp (← same_code e, refusal_refuses why), simp (← same_code e, refusal_refuses why))

  pub good_setup : (m : Machine) → answer OK m ≡ setup byte → {code : ℤ} {end : Machine} (after : List ℕ)
      → answer code end ≡ ran m log (length room) → after ≡ ran_room m log room → Runs byte log room code after
  unfolding code_from_setup room_from_setup
  good_setup m e after says wrote = (
    simp (← same_code e) (same_code says ∙ ap (λ (x : Machine). (ran x log (length room)).code) (same_value e)),
    simp (← same_code e) (wrote ∙ ap (λ (x : Machine). ran_room x log room) (same_value e)),
  )

-- A refusal, of the byte or of the log, writes nothing.
pub refused_writes_nothing : (byte : ℕ) (log room : List ℕ) → is_ok (code_from_setup byte log (length room)) ≡ false
    → room_from_setup byte log room ≡ room
unfolding code_from_setup room_from_setup
refused_writes_nothing byte log room =
    bool_ind
    (λ good. is_ok (cond good (ran (setup byte).value log (length room)).code (setup byte).code) ≡ false
    → cond good (ran_room (setup byte).value log room) room ≡ room)
    (is_ok (setup byte).code) (λ _. refused_room (setup byte).value log room) (λ _ _. refl)

-- An accepted log was run by the machine that the byte asks for.
pub accepted_runs : (byte : ℕ) (log room : List ℕ) → is_ok (code_from_setup byte log (length room)) ≡ true
    → (is_ok (ran (setup byte).value log (length room)).code ≡ true) × (room_from_setup byte log room ≡ ran_room (setup byte).value log room)
unfolding code_from_setup room_from_setup
accepted_runs byte log room =
    bool_ind
    (λ good. is_ok (setup byte).code ≡ good → is_ok (cond good (ran (setup byte).value log (length room)).code (setup byte).code) ≡ true
    → (is_ok (ran (setup byte).value log (length room)).code ≡ true)
    × (cond good (ran_room (setup byte).value log room) room ≡ ran_room (setup byte).value log room))
    (is_ok (setup byte).code) (λ _ _ ok. (ok, refl)) (λ _ bad ok. absurd (false≢true (sym bad ∙ ok))) refl

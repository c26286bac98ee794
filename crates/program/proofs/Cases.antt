-- The three ways in which an input is answered, over plain variables. Assumes nothing.
use mathlib.Core.Path.{◌≡◌, sym, ap, ◌∙◌, subst}
use mathlib.Core.List.{List, ◌∷◌}
use Prim.Native.Nat.{ℕ, ◌*◌, ◌/◌}
use native.Mathlib.Omega.{arith}
use lib.IntN.{ℤ}
use lib.ListN.{length}
use borrow.Author.Tests.{eq-eqb, ne_eqb}
use Rattle.error.specs.Codes.{OK, EINVAL, refusal_number, is_ok}
use Rattle.error.specs.Answer.{Answer, answer}
use Rattle.error.specs.declared.Refusal.{Refusal}
use Rattle.error.proofs.Answers.{refusal_refuses}
use Rattle.setup_run.specs.Run.{code_from_setup, room_from_setup}
use Rattle.setup_run.proofs.Cases.{refused_writes_nothing}
use Rattle.program.specs.Program.{input_code, refusal_size, refusal_room, respond_size, respond_room}

-- What the contract says of a size and a room.
abbrev pub Responds : List ℕ → List ℕ → Answer ℕ → List ℕ → Type 0
Responds input room size after = (size ≡ respond_size input (length room)) × (after ≡ respond_room input room)

pub no_setup : (input room : List ℕ) → length input ≡ 0 → Responds input room (refusal_size (length room)) (refusal_room EINVAL room)
unfolding input_code respond_size respond_room
no_setup input room none = (simp (eq-eqb _ _ none), simp (eq-eqb _ _ none))

-- A setup byte and the log behind it, and how they ran.
module _ {input : List ℕ} {byte : ℕ} {log : List ℕ} (first : input ≡ byte ∷ log) (room : List ℕ) where
  run_code : {code : ℤ} → code ≡ code_from_setup byte log (length room) → input_code (byte ∷ log) (length room) ≡ code
  unfolding input_code
  run_code says = simp (ne_eqb (length (byte ∷ log)) 0 (λ e. omega (arith, e))) (sym says)

  pub refused_run : (why : Refusal) → refusal_number why ≡ code_from_setup byte log (length room) → {after : List ℕ}
      → after ≡ room_from_setup byte log room → Responds input room (refusal_size (length after)) (refusal_room (refusal_number why) after)
  unfolding respond_size respond_room
  refused_run why says {after = after} wrote =
      let bad = refusal_refuses why in
      let as_it_was = wrote ∙ refused_writes_nothing byte log room (ap is_ok (sym says) ∙ bad) in
      subst (λ i. Responds i room (refusal_size (length after)) (refusal_room (refusal_number why) after)) (sym first) (
        ap (λ (l : List ℕ). refusal_size (length l)) as_it_was ∙ simp (run_code says, bad),
        ap (refusal_room (refusal_number why)) as_it_was ∙ simp (run_code says, bad),
      )

  pub whole_run : OK ≡ code_from_setup byte log (length room) → {after : List ℕ} → after ≡ room_from_setup byte log room
      → Responds input room (answer OK (length log / 12 * 8)) after
  unfolding respond_size respond_room
  whole_run says {after = after} wrote =
      subst (λ i. Responds i room (answer OK (length log / 12 * 8)) after) (sym first) (simp (run_code says), simp (run_code says) wrote)

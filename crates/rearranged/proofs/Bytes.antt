-- Demand 3 at the bytes: what the runner and the program write for a rearranged log. Assumes nothing.
use mathlib.Core.Path.{◌≡◌, ap, sym, ◌∙◌}
use mathlib.Core.Bool.{true, false, cond}
use mathlib.Core.List.{List, ◌∷◌}
use Prim.Native.Nat.{ℕ, suc, ◌/◌, ◌<◌}
use native.Mathlib.Omega.{arith}
use lib.ListN.{length}
use borrow.Author.Tests.{ne_eqb}
use Rattle.error.specs.Codes.{is_ok}
use Rattle.machine.specs.State.{setup}
use Rattle.machine.specs.declared.Machine.{Machine}
use Rattle.answers.specs.Answer.{answer_bytes}
use Rattle.wellformed.specs.WellFormed.{well_formed}
use Rattle.operations.specs.Log.{state_at, answer_at}
use Rattle.log_tests.proofs.Accepted.{room_enough}
use Rattle.runner.specs.Run.{room_at, ran, ran_room}
use Rattle.runner.proofs.Refused.{refused_room}
use Rattle.setup_run.specs.Run.{code_from_setup}
use Rattle.setup_run.proofs.Cases.{accepted_runs}
use Rattle.program.specs.Program.{input_code, refusal_room, respond_size, respond_room}
use Rattle.rearranged.specs.Rearranged.{Rearranged, SameRun, place, SameBytes, SameResponse}
use Rattle.rearranged.proofs.Places.{answer_in_place}
use Rattle.rearranged.proofs.Laws.{rearranged_log}

-- What a run leaves in its room.
run_room : (m : Machine) (log room : List ℕ) → is_ok (ran m log (length room)).code ≡ true
    → ran_room m log room ≡ room_at m log room (length log / 12)
unfolding ran ran_room
run_room m log room e = rw e

-- A run writes each record's answer into its place.
pub place_of_run : (m : Machine) (log room : List ℕ) → is_ok (ran m log (length room)).code ≡ true → (k : ℕ) → k < length log / 12
    → place (ran_room m log room) k ≡ answer_bytes (answer_at m log k).code (answer_at m log k).value
unfolding ran
place_of_run m log room e k h =
    ap (λ r. place r k) (run_room m log room e)
    ∙ answer_in_place m log room (length log / 12) (room_enough (well_formed m) (length log) (length room) e) k h

same_end : (m : Machine) (old new : List ℕ) (room : ℕ) → length new ≡ length old
    → state_at m new (length old / 12) ≡ state_at m old (length old / 12) → ran m new room ≡ ran m old room
unfolding ran
same_end m old new room size state = rw (size, state)

-- The runner.
pub rearranged_bytes : (m : Machine) (old new room : List ℕ) (π : ℕ → ℕ) → length new ≡ length old
    → Rearranged m.setup (length old / 12) old new π → SameBytes m old new room π
rearranged_bytes m old new room π size r =
    let same : SameRun m (length old / 12) old new π = rearranged_log m (length old / 12) old new π r in
    let end : ran m new (length room) ≡ ran m old (length room) = same_end m old new (length room) size same.state in
    record {
      end = end;
      each = λ ok k h.
          place_of_run m new room (ap (λ x. is_ok x.code) end ∙ ok) k (rw size h)
          ∙ ap (λ a. answer_bytes a.code a.value) (same.each k h)
          ∙ sym (place_of_run m old room ok (π k) (r.permutes.below k h));
      refused = λ bad. refused_room m new room (ap (λ x. is_ok x.code) end ∙ bad) ∙ sym (refused_room m old room bad);
    }

-- The program's code is that of its setup byte and its log.
input_code_is : (s : ℕ) (log : List ℕ) (room : ℕ) → input_code (s ∷ log) room ≡ code_from_setup s log room
unfolding input_code
input_code_is s log room = rw (ne_eqb (suc (length log)) 0 (λ e. omega arith))

accepted_room : (s : ℕ) (log room : List ℕ) → is_ok (input_code (s ∷ log) (length room)) ≡ true
    → respond_room (s ∷ log) room ≡ ran_room (setup s).value log room
unfolding respond_room
accepted_room s log room ok = rw ok (accepted_runs s log room (ap is_ok (sym (input_code_is s log (length room))) ∙ ok)).1

refused_response : (s : ℕ) (log room : List ℕ) → is_ok (input_code (s ∷ log) (length room)) ≡ false
    → respond_room (s ∷ log) room ≡ refusal_room (input_code (s ∷ log) (length room)) room
unfolding respond_room
refused_response s log room bad = rw bad

same_size : (s : ℕ) (old new : List ℕ) (room : ℕ) → length new ≡ length old → input_code (s ∷ new) room ≡ input_code (s ∷ old) room
    → respond_size (s ∷ new) room ≡ respond_size (s ∷ old) room
unfolding respond_size
same_size s old new room size code = rw (code, size)

-- Runs that end alike have one code.
same_code : (s : ℕ) (old new : List ℕ) (room : ℕ) → ran (setup s).value new room ≡ ran (setup s).value old room
    → code_from_setup s new room ≡ code_from_setup s old room
unfolding code_from_setup
same_code s old new room e = ap (λ a. cond (is_ok (setup s).code) a.code (setup s).code) e

-- The program.
pub rearranged_response : (s : ℕ) (old new room : List ℕ) (π : ℕ → ℕ) → length new ≡ length old
    → Rearranged (setup s).value.setup (length old / 12) old new π → SameResponse s old new room π
rearranged_response s old new room π size r =
    let same : SameBytes (setup s).value old new room π = rearranged_bytes (setup s).value old new room π size r in
    let code : input_code (s ∷ new) (length room) ≡ input_code (s ∷ old) (length room) =
    input_code_is s new (length room) ∙ same_code s old new (length room) same.end ∙ sym (input_code_is s old (length room)) in
    record {
      size = same_size s old new (length room) size code;
      each = λ ok k h.
          let runs = (accepted_runs s old room (ap is_ok (sym (input_code_is s old (length room))) ∙ ok)).0 in
          ap (λ x. place x k) (accepted_room s new room (ap is_ok code ∙ ok)) ∙ same.each runs k h
          ∙ sym (ap (λ x. place x (π k)) (accepted_room s old room ok));
      refused = λ bad.
          refused_response s new room (ap is_ok code ∙ bad) ∙ ap (λ c. refusal_room c room) code ∙ sym (refused_response s old room bad);
    }

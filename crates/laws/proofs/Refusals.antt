-- What is refused changes nothing: no lock, CPU or thread of a machine, no byte of lent room, no lent record, no form. Of a record, a step, a run
-- and a feed it holds on every machine, well-formed or not; of an exported call with whatever input.
--
-- `answered` and `next` stand in operations/specs/Asked.antt, `step` in runner/specs/Step.antt, `ran` and `ran_room` in runner/specs/Run.antt,
-- `call_code` and `call_room`, by which nine exported calls answer, in lent_room/specs/Room.antt, the rule of the exported runner in
-- setup_run/specs/Run.antt, and those of the exported start and feed in form_bytes/specs/Form.antt. Finish writes nothing. `fed` and `fed_room` stand
-- in feed/specs/Feed.antt. The proofs are in operations/proofs/Refused.antt, runner/proofs/Refused.antt, cuts/proofs/Whole.antt,
-- setup_run/proofs/Cases.antt, form_bytes/proofs/Refused.antt and in_place/proofs/Laws.antt.
-- Assumes nothing.
use mathlib.Core.Path.{◌≡◌, ap, sym, ◌∙◌}
use mathlib.Core.Bool.{false, false≢true}
use mathlib.Core.List.{List}
use Prim.Native.Nat.{ℕ}
use lib.ListN.{length}
use Rattle.error.specs.Codes.{number_of, is_ok}
use Rattle.error.specs.Answer.{Answer, answer}
use Rattle.std.specs.Prelude.{Result}
use Rattle.error.specs.declared.Refusal.{Refusal}
use Rattle.spinlock.specs.Lock.{operate}
use Rattle.spinlock.specs.declared.SpinlockState.{SpinlockState}
use Rattle.spinlock.specs.declared.Operation.{Operation}
use Rattle.machine.specs.declared.Machine.{Machine}
use Rattle.operations.specs.Asked.{answered, next}
use Rattle.operations.proofs.Refused as Operations
use Rattle.runner.specs.Step.{step}
use Rattle.runner.specs.Run.{ran, ran_room}
use Rattle.runner.proofs.Refused as Runner
use Rattle.setup_run.specs.Run.{code_from_setup, room_from_setup}
use Rattle.setup_run.proofs.Cases.{refused_writes_nothing}
use Rattle.lent_room.specs.Room.{call_code, call_room}
use Rattle.feed.specs.declared.Form.{Form}
use Rattle.feed.specs.Feed.{fed, fed_room}
use Rattle.cuts.proofs.Whole as Whole
use Rattle.form_bytes.specs.Form.{start_code, start_room, fed_code, form_after, room_after}
use Rattle.form_bytes.proofs.Refused.{refused_start, refused_feed}
use Rattle.in_place.proofs.Laws.{refused_leaves}

module _ (m : Machine) where
  -- A record: the machine stays.
  pub record_refused : (bytes : List ℕ) → is_ok (answered m bytes).code ≡ false → next m bytes ≡ m
  record_refused = Operations.record_refused m

  -- A step: the machine that it hands back is the one that it was given.
  pub step_refused : (bytes : List ℕ) → is_ok (step m bytes).0.code ≡ false → (step m bytes).1 ≡ m
  step_refused = Runner.step_refused m

  -- A run: so is its machine, and every byte of the room stays.
  pub run_refused : (log room : List ℕ) → is_ok (ran m log (length room)).code ≡ false
      → ((ran m log (length room)).value ≡ m) × (ran_room m log room ≡ room)
  run_refused log room e = (Runner.refused_machine m log (length room) e, Runner.refused_room m log room e)

-- An exported call: every lent byte stays, whatever its rule answered.
pub call_refused : (a : Answer (List ℕ)) (room : List ℕ) → is_ok (call_code a (length room)) ≡ false → call_room a room ≡ room
unfolding call_room
call_refused a room e = rw e

-- The exported runner.
pub run_call_refused : (setup : ℕ) (log room : List ℕ) → is_ok (code_from_setup setup log (length room)) ≡ false → room_from_setup setup log room ≡ room
run_call_refused = refused_writes_nothing

-- The exported start: every byte that was to be the form stays. The exported feed: every byte of the form and of the answer room stays; by its
-- contract so does the number of records. The exported check writes a number of a record alone, and by its contract that stays too.
pub start_call_refused : (setup : ℕ) (form : List ℕ) → is_ok (start_code setup (length form)) ≡ false → start_room setup form ≡ form
start_call_refused = refused_start

pub feed_call_refused : (form fragment room : List ℕ) → is_ok (fed_code form fragment (length room)) ≡ false
    → (form_after form fragment (length room) ≡ form) × (room_after form fragment room ≡ room)
feed_call_refused = refused_feed

-- A feed: the form and the answer room stay, and no record was run.
pub feed_refused : (f : Form) (fragment room : List ℕ) → is_ok (fed f fragment (length room)).code ≡ false
    → ((fed f fragment (length room)).value ≡ (f, 0)) × (fed_room f fragment room ≡ room)
feed_refused = Whole.refused_feed

-- A call in place: by its contract the code and the record after it are what the rule gives of the record before it.
pub in_place_refused : (op : Operation) (before after : SpinlockState) (tid : ℕ) (code : Result (Unit {0}) Refusal)
    → answer (number_of code) after ≡ operate op before tid false → is_ok (number_of code) ≡ false → after ≡ before
in_place_refused op before after tid code e refused =
    refused_leaves op before after tid code e (λ done. false≢true (sym refused ∙ ap (λ (c : Result (Unit {0}) Refusal). is_ok (number_of c)) done))

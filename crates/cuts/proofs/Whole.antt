-- From a start: a log that is cut anywhere ends as the whole log does, record after record, and as its run where the runner takes it. And what is
-- refused, or finished, leaves the form, so that feeding may go on. Assumes nothing.
use mathlib.Core.Path.{◌≡◌, refl, ap, sym, ◌∙◌}
use mathlib.Core.Bool.{true, false}
use mathlib.Core.List.{List, [], ◌∷◌, ◌++◌}
use Prim.Native.Nat.{ℕ, suc, ◌*◌, ◌/◌, ◌%◌, ◌≤◌}
use native.Mathlib.Omega.{arith}
use lib.ListN.{length, drop}
use borrow.Author.Tests.{le-leb}
use Rattle.error.specs.Codes.{OK, is_ok}
use Rattle.error.specs.Answer.{answer}
use Rattle.words.proofs.Choice.{and_left, and_right}
use Rattle.machine.specs.declared.Machine.{Machine}
use Rattle.wellformed.specs.WellFormed.{well_formed}
use Rattle.operations.specs.Log.{record_at, state_at, answer_at}
use Rattle.operations.proofs.Lengths.{Lengths}
use Rattle.log_tests.proofs.Codes.{runs}
use Rattle.runner.specs.Step.{step}
use Rattle.runner.specs.Run.{ran, ran_room}
use Rattle.runner.proofs.Records.{ran_whole}
use Rattle.runner.proofs.Answers.{room_is}
use Rattle.kept.proofs.Laws.{states_keep}
use Rattle.log_tests.specs.FeedCode.{form_ok}
use Rattle.feed.specs.declared.Form.{Form}
use Rattle.feed.specs.Feed.{fed, fed_room, started, finished}
use Rattle.cuts.specs.Cuts.{Fragment, fed_one, form_after, answers_after, log_taken, all_taken, log_of, EndsAs}
use Rattle.cuts.proofs.Laws.{ends}

-- A refused fragment is not taken.
pub refused_feed : (f : Form) (bytes room : List ℕ) → is_ok (fed f bytes (length room)).code ≡ false
    → ((fed f bytes (length room)).value ≡ (f, 0)) × (fed_room f bytes room ≡ room)
unfolding fed fed_room
refused_feed f bytes room bad = (rw bad, rw bad)

-- So what is fed next is fed to the same form.
pub skipped : (f : Form) (x : Fragment) (xs : List Fragment) → is_ok (fed_one f x).code ≡ false → form_after f (x ∷ xs) ≡ form_after f xs
unfolding form_after
skipped f x xs bad = ap (λ (v : Form × ℕ). form_after v.0 xs) (refused_feed f x.bytes x.room bad).0

-- Finish hands back the form.
pub finish_leaves : (f : Form) → (finished f).value ≡ f
unfolding finished
finish_leaves f = refl

-- If none is refused, the log that arrives is the log that was cut.
pub nothing_lost : (f : Form) (xs : List Fragment) → all_taken f xs ≡ true → log_taken f xs ≡ log_of xs
unfolding all_taken log_taken log_of
nothing_lost f [] ok = refl
nothing_lost f (x ∷ xs) ok =
    let first = and_left (is_ok (fed_one f x).code) (all_taken (fed_one f x).value.0 xs) ok in
    rw first (ap (λ l. x.bytes ++ l) (nothing_lost (fed_one f x).value.0 xs (and_right (is_ok (fed_one f x).code) _ ok)))

-- Any fragments, from a start on any machine.
pub from_start : (m : Machine) (xs : List Fragment)
    → EndsAs m (log_taken (started m).value xs) (form_after (started m).value xs) (answers_after (started m).value xs)
unfolding started
from_start m xs = ends (started m).value (record { few = omega arith; eleven = refl }) xs

-- On a well-formed machine each record is a step.
pub each_step : (m : Machine) → Lengths m → well_formed m ≡ true → (log : List ℕ) (k : ℕ)
    → step (state_at m log k) (record_at log k) ≡ (answer_at m log k, state_at m log (suc k))
unfolding step state_at
each_step m s good log k = rw (states_keep m s log k good).1

module _ (m : Machine) (s : Lengths m) (good : well_formed m ≡ true) (xs : List Fragment) where
  abbrev end : Form
  end = form_after (started m).value xs

  abbrev log : List ℕ
  log = log_taken (started m).value xs

  -- The form stays one that no call refuses for its machine or its pending bytes.
  pub end_ok : form_ok (well_formed (form_after (started m).value xs).machine) (form_after (started m).value xs).count ≡ true
  end_ok =
      let e = from_start m xs in
      rw (e.machine, (states_keep m s log (length log / 12) good).1, le-leb end.count 11 (omega (arith, e.count)))

  -- A log of whole records that are all there is finished.
  pub whole_finishes : length log % 12 ≡ 0 → (finished (form_after (started m).value xs)).code ≡ OK
  unfolding finished
  whole_finishes whole =
      let none : end.count ≡ 0 = (from_start m xs).count ∙ whole in
      rw ((from_start m xs).machine, (states_keep m s log (length log / 12) good).1, none)

  module _ (ok : all_taken (started m).value xs ≡ true) (whole : length (log_of xs) % 12 ≡ 0) (short : length (log_of xs) ≤ 24576) where
    cut_log : EndsAs m (log_of xs) (form_after (started m).value xs) (answers_after (started m).value xs)
    cut_log = rw (sym (nothing_lost (started m).value xs ok)) (from_start m xs)

    -- The run of the whole log: its code, its machine, its room.
    pub same_run : (room : List ℕ) → length (log_of xs) / 12 * 8 ≤ length room
        → (ran m (log_of xs) (length room) ≡ answer OK (form_after (started m).value xs).machine)
        × (ran_room m (log_of xs) room ≡ answers_after (started m).value xs ++ drop (length (log_of xs) / 12 * 8) room)
    same_run room fits =
        let is = runs (well_formed m) (length (log_of xs)) (length room) good short whole fits in
        let k = ran_whole m (log_of xs) room refl is refl in (
          sym k.0 ∙ ap (answer OK) (sym cut_log.machine),
          sym k.1 ∙ room_is m (log_of xs) room (length (log_of xs) / 12) fits
              ∙ ap (λ l. l ++ drop (length (log_of xs) / 12 * 8) room) (sym cut_log.answered),
        )

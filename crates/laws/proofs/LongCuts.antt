-- A log of any length, in fragments of which some may be refused: the log that arrives is that of the others. From a start on any machine,
-- well-formed or not: the whole records of that log have run on the machine, each answer is the one to its record, and the bytes behind them are
-- pending. On a well-formed machine that is the step rule applied record after record, and no later call refuses the form for its machine or its
-- pending bytes.
-- A refused fragment is not taken, and so the form stays (`feed_refused` of Refusals). Finish changes nothing. So feeding may go on after either.
--
-- `EndsAs`, `Fragment`, `log_taken`, `form_after` and `answers_after` stand in cuts/specs/Cuts.antt, `started`, `fed` and `finished` in
-- feed/specs/Feed.antt, `state_at` and `answer_at` in operations/specs/Log.antt, `step` in runner/specs/Step.antt. The proofs are in cuts/proofs.
-- Assumes nothing.
use mathlib.Core.Path.{◌≡◌}
use mathlib.Core.Bool.{true, false}
use mathlib.Core.List.{List, ◌∷◌}
use Prim.Native.Nat.{ℕ, suc}
use Rattle.error.specs.Codes.{is_ok}
use Rattle.machine.specs.declared.Machine.{Machine}
use Rattle.wellformed.specs.WellFormed.{well_formed}
use Rattle.operations.specs.Log.{record_at, state_at, answer_at}
use Rattle.operations.proofs.Lengths.{Lengths}
use Rattle.log_tests.specs.FeedCode.{form_ok}
use Rattle.runner.specs.Step.{step}
use Rattle.feed.specs.declared.Form.{Form}
use Rattle.feed.specs.Feed.{started, finished}
use Rattle.cuts.specs.Cuts.{Fragment, fed_one, form_after, answers_after, log_taken, all_taken, log_of, EndsAs}
use Rattle.cuts.proofs.Whole as Whole

module _ (m : Machine) (xs : List Fragment) where
  pub long_cuts : EndsAs m (log_taken (started m).value xs) (form_after (started m).value xs) (answers_after (started m).value xs)
  long_cuts = Whole.from_start m xs

  -- If no fragment is refused, the log that arrives is the one that was cut.
  pub nothing_lost : all_taken (started m).value xs ≡ true → log_taken (started m).value xs ≡ log_of xs
  nothing_lost = Whole.nothing_lost (started m).value xs

module _ (m : Machine) (s : Lengths m) (good : well_formed m ≡ true) where
  -- Record k of a log: its answer and the machine after it are those of a step on the machine before it.
  pub record_after_record : (log : List ℕ) (k : ℕ) → step (state_at m log k) (record_at log k) ≡ (answer_at m log k, state_at m log (suc k))
  record_after_record = Whole.each_step m s good

  pub stays_ok : (xs : List Fragment)
      → form_ok (well_formed (form_after (started m).value xs).machine) (form_after (started m).value xs).count ≡ true
  stays_ok = Whole.end_ok m s good

module _ (f : Form) where
  -- Whatever is fed next, it is fed to the form that was there before the refusal.
  pub refused_goes_on : (x : Fragment) (xs : List Fragment) → is_ok (fed_one f x).code ≡ false → form_after f (x ∷ xs) ≡ form_after f xs
  refused_goes_on = Whole.skipped f

  pub finish_changes_nothing : (finished f).value ≡ f
  finish_changes_nothing = Whole.finish_leaves f

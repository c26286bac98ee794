-- A log that is cut anywhere. A log of whole records, no longer than the longest that the runner takes, is cut into fragments at whatever places,
-- inside records too, and fed from a start on a well-formed machine; no fragment is refused. Then the machine is the one that the runner hands
-- back for the whole log, the answers, one after the other, are what the runner writes over the front of its room, and finish is OK.
--
-- `Fragment`, `all_taken`, `log_of`, `form_after` and `answers_after` stand in cuts/specs/Cuts.antt, `started`, `fed` and `finished` in
-- feed/specs/Feed.antt, `ran` and `ran_room` in runner/specs/Run.antt. The proofs are in cuts/proofs. Assumes nothing.
use mathlib.Core.Path.{◌≡◌, ap, ◌∙◌}
use mathlib.Core.Bool.{true}
use mathlib.Core.List.{List, ◌++◌}
use Prim.Native.Nat.{ℕ, ◌*◌, ◌/◌, ◌%◌, ◌≤◌}
use lib.ListN.{length, drop}
use Rattle.error.specs.Codes.{OK}
use Rattle.error.specs.Answer.{answer}
use Rattle.machine.specs.declared.Machine.{Machine}
use Rattle.wellformed.specs.WellFormed.{well_formed}
use Rattle.operations.proofs.Lengths.{Lengths}
use Rattle.runner.specs.Run.{ran, ran_room}
use Rattle.feed.specs.Feed.{started, finished}
use Rattle.cuts.specs.Cuts.{Fragment, form_after, answers_after, all_taken, log_of}
use Rattle.cuts.proofs.Whole as Whole

module _ (m : Machine) (s : Lengths m) (good : well_formed m ≡ true) (xs : List Fragment) (taken : all_taken (started m).value xs ≡ true)
    (whole : length (log_of xs) % 12 ≡ 0) (short : length (log_of xs) ≤ 24576) where
  pub cuts : (room : List ℕ) → length (log_of xs) / 12 * 8 ≤ length room
      → (ran m (log_of xs) (length room) ≡ answer OK (form_after (started m).value xs).machine)
      × (ran_room m (log_of xs) room ≡ answers_after (started m).value xs ++ drop (length (log_of xs) / 12 * 8) room)
  cuts = Whole.same_run m s good xs taken whole short

  pub cuts_finish : (finished (form_after (started m).value xs)).code ≡ OK
  cuts_finish = Whole.whole_finishes m s good xs (ap (λ (l : List ℕ). length l % 12) (Whole.nothing_lost (started m).value xs taken) ∙ whole)

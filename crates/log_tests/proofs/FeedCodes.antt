-- The code of a feed, test by test in their order; what holds of a fragment that is taken; and that a fragment which completes records has the
-- code of a run of those records. Assumes nothing.
use mathlib.Core.Path.{◌≡◌, refl}
use mathlib.Core.Bool.{Bool, true, false, not, cond, false≢true}
use Prim.Native.Nat.{ℕ, ◌*◌, ◌/◌, ◌%◌, ◌≤◌, ◌<◌}
use native.Mathlib.Omega.{arith}
use lib.Dec.{leb, ltb}
use borrow.Author.Tests.{lt-ltb, le-ltb, le-leb, leb-true, ltb-false, eq-eqb, not-false}
use Rattle.error.specs.Codes.{OK, ENOMEM, EINVAL, EOVERFLOW, is_ok}
use Rattle.words.proofs.Choice.{and_left, and_right}
use Rattle.log_tests.specs.RunCode.{run_code}
use Rattle.log_tests.specs.FeedCode.{form_ok, completed_by, feed_code}

module _ (formed : Bool) (pending size room : ℕ) where
  pub bad_form : form_ok formed pending ≡ false → EINVAL ≡ feed_code formed pending size room
  unfolding feed_code
  bad_form f = simp f

  module _ (f : form_ok formed pending ≡ true) where
    pub too_long : 24576 < size → EOVERFLOW ≡ feed_code formed pending size room
    unfolding feed_code
    too_long h = simp (f, lt-ltb _ _ h)

    module _ (h : size ≤ 24576) where
      pub no_room : room < completed_by pending size * 8 → ENOMEM ≡ feed_code formed pending size room
      unfolding feed_code
      no_room r = simp (f, le-ltb _ _ h, lt-ltb _ _ r)

      pub takes : completed_by pending size * 8 ≤ room → OK ≡ feed_code formed pending size room
      unfolding feed_code
      takes r = simp (f, le-ltb _ _ h, le-ltb _ _ r)

-- Three tests in a row are passed if none of them refuses.
passed : (a b c : Bool) → is_ok (cond a EINVAL (cond b EOVERFLOW (cond c ENOMEM OK))) ≡ true → (a ≡ false) × (b ≡ false) × (c ≡ false)
passed true b c e = absurd (false≢true e)
passed false true c e = absurd (false≢true e)
passed false false true e = absurd (false≢true e)
passed false false false e = (refl, refl, refl)

-- A fragment that is taken has passed every test.
module _ (formed : Bool) (pending size room : ℕ) (e : is_ok (feed_code formed pending size room) ≡ true) where
  all_passed : (not (form_ok formed pending) ≡ false) × (ltb 24576 size ≡ false) × (ltb room (completed_by pending size * 8) ≡ false)
  unfolding feed_code
  all_passed = passed (not (form_ok formed pending)) (ltb 24576 size) (ltb room (completed_by pending size * 8)) e

  pub machine_formed : formed ≡ true
  machine_formed = and_left formed (leb pending 11) (not-false _ all_passed.0)

  pub few_pending : pending ≤ 11
  few_pending = leb-true pending 11 (and_right formed (leb pending 11) (not-false _ all_passed.0))

  pub short_enough : size ≤ 24576
  short_enough = ltb-false 24576 size all_passed.1

  pub room_enough : completed_by pending size * 8 ≤ room
  room_enough = ltb-false room (completed_by pending size * 8) all_passed.2

-- At most 2,048 records are completed, as many as the longest log has. So of a fragment that is not too long the tests of a run are those of a
-- feed.
pub feed_runs : (formed : Bool) (pending size room : ℕ) → pending ≤ 11 → size ≤ 24576
    → run_code formed (completed_by pending size * 12) room ≡ feed_code formed pending size room
unfolding run_code feed_code
feed_runs false pending size room few short = refl
feed_runs true pending size room few short =
    let k = completed_by pending size in
    let whole : k * 12 % 12 ≡ 0 = omega arith in
    let records : k * 12 / 12 ≡ k = omega arith in
    simp (le-leb _ _ few, le-ltb _ _ short, le-ltb 24576 (k * 12) (omega arith), eq-eqb _ _ whole, records)

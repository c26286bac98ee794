-- What holds of a log that is run: it has passed every test. Assumes nothing.
use mathlib.Core.Path.{◌≡◌, refl}
use mathlib.Core.Bool.{Bool, true, false, not, cond, false≢true}
use Prim.Native.Nat.{ℕ, ◌*◌, ◌/◌, ◌%◌, ◌≤◌}
use lib.Dec.{eqb, ltb}
use borrow.Author.Tests.{ltb-false, not-false}
use Rattle.error.specs.Codes.{OK, ENOMEM, EINVAL, EOVERFLOW, is_ok}
use Rattle.log_tests.specs.RunCode.{run_code}

-- Four tests in a row are passed if none of them refuses.
passed : (a b c d : Bool) → is_ok (cond a EINVAL (cond b EOVERFLOW (cond c EINVAL (cond d ENOMEM OK)))) ≡ true
    → (a ≡ false) × (b ≡ false) × (c ≡ false) × (d ≡ false)
passed true b c d e = absurd (false≢true e)
passed false true c d e = absurd (false≢true e)
passed false false true d e = absurd (false≢true e)
passed false false false true e = absurd (false≢true e)
passed false false false false e = (refl, refl, refl, refl)

module _ (formed : Bool) (size room : ℕ) (e : is_ok (run_code formed size room) ≡ true) where
  all_passed : (not formed ≡ false) × (ltb 24576 size ≡ false) × (not (eqb (size % 12) 0) ≡ false) × (ltb room (size / 12 * 8) ≡ false)
  unfolding run_code
  all_passed = passed (not formed) (ltb 24576 size) (not (eqb (size % 12) 0)) (ltb room (size / 12 * 8)) e

  -- The machine is well-formed.
  pub machine_formed : formed ≡ true
  machine_formed = not-false formed all_passed.0

  -- The log is no longer than the longest.
  pub short_enough : size ≤ 24576
  short_enough = ltb-false 24576 size all_passed.1

  -- There is room for its answers.
  pub room_enough : size / 12 * 8 ≤ room
  room_enough = ltb-false room (size / 12 * 8) all_passed.3

-- 01, "Log records", "Runner": the tests before a log is run.
use Rattle.std.specs.Prelude.{ℕ, ◌*◌, ◌/◌, ◌%◌, Bool, not, cond, eqb, ltb, ℤ}
use Rattle.error.specs.Codes.{OK, ENOMEM, EINVAL, EOVERFLOW}

-- Runner, in order: machine not well-formed EINVAL; over 24,576 bytes EOVERFLOW; length no multiple of 12 EINVAL; room under 8 bytes a record
-- ENOMEM.
unfoldable pub run_code : Bool → ℕ → ℕ → ℤ
run_code formed size room =
    cond (not formed) EINVAL
    (cond (ltb 24576 size) EOVERFLOW
    (cond (not (eqb (size % 12) 0)) EINVAL
    (cond (ltb room (size / 12 * 8)) ENOMEM
    OK)))

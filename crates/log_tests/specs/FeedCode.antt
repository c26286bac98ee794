-- 02, "Logs as they arrive": the tests before a fragment is taken.
use Rattle.std.specs.Prelude.{ℕ, ◌+◌, ◌*◌, ◌/◌, Bool, not, cond, ◌&&◌, leb, ltb, ℤ}
use Rattle.error.specs.Codes.{OK, ENOMEM, EINVAL, EOVERFLOW}

-- Each call asks for a well-formed machine and at most eleven bytes pending.
abbrev pub form_ok : Bool → ℕ → Bool
form_ok formed pending = formed && leb pending 11

-- How many records a fragment of this size completes.
abbrev pub completed_by : ℕ → ℕ → ℕ
completed_by pending size = (pending + size) / 12

-- Feed, in order: such a form or EINVAL; over 24,576 bytes EOVERFLOW; room under 8 bytes for each record that is completed ENOMEM.
unfoldable pub feed_code : Bool → ℕ → ℕ → ℕ → ℤ
feed_code formed pending size room =
    cond (not (form_ok formed pending)) EINVAL
    (cond (ltb 24576 size) EOVERFLOW
    (cond (ltb room (completed_by pending size * 8)) ENOMEM
    OK))

-- 02, request 8: what is found of a claim, as a number for C, and the number of the record.
use Rattle.std.specs.Prelude.{ℕ, ℤ, pos}
use Rattle.error.specs.Codes.{OK}
use Rattle.claims.specs.Claims.{Judgement, right, differs, refused}

-- OK if every byte is right, 1 if an answer differs, and else the code of the refusal.
unfoldable pub result_of : Judgement → ℤ
result_of right = OK
result_of (differs k) = pos 1
result_of (refused code) = code

-- The number of the record that differs; else the number is as it was.
unfoldable pub record_after : Judgement → ℕ → ℕ
record_after right before = before
record_after (differs k) before = k
record_after (refused code) before = before

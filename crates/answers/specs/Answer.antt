-- 01, "Log records": an answer as eight bytes.
use Rattle.std.specs.Prelude.{ℕ, cond, List, ◌++◌, ltb, ℤ, length, take, drop}
use Rattle.error.specs.Codes.{OK, ENOMEM}
use Rattle.error.specs.Answer.{Answer, answer}
use Rattle.words.specs.HighFirst.{high_first, from_high_first}
use Rattle.words.specs.Signed.{to_signed, from_signed}

-- Answer, eight bytes: code 32 (two's complement), value 32.
unfoldable pub answer_bytes : ℤ → ℕ → List ℕ
answer_bytes code value = high_first 4 (from_signed 31 code) ++ high_first 4 value

-- The code and the value that eight bytes hold.
unfoldable pub decode_answer : List ℕ → Answer ℕ
decode_answer bs = answer (to_signed 31 (from_high_first (take 4 bs))) (from_high_first (drop 4 bs))

-- The room with bytes over its front. A room too short is as it was.
unfoldable pub written : List ℕ → List ℕ → List ℕ
written bs room = cond (ltb (length room) (length bs)) room (bs ++ drop (length bs) room)

-- The code of writing an answer into so much room: ENOMEM under 8 bytes.
unfoldable pub put_code : ℕ → ℤ
put_code room = cond (ltb room 8) ENOMEM OK

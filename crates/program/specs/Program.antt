-- 01, "Log records", the program: a setup byte and a log. No setup byte, a bad one (EINVAL, first), or a refused log writes one answer with that
-- code and value 0. An empty log writes nothing.
use Rattle.std.specs.Prelude.{ℕ, ◌*◌, ◌/◌, cond, List, eqb, ℤ, length, get_or, drop}
use Rattle.error.specs.Codes.{OK, EINVAL, is_ok}
use Rattle.error.specs.Answer.{Answer, answer}
use Rattle.answers.specs.Answer.{answer_bytes, written, put_code}
use Rattle.setup_run.specs.Run.{code_from_setup, room_from_setup}

-- The setup byte, and the log behind it.
abbrev pub setup_of : List ℕ → ℕ
setup_of input = get_or input 0 0

abbrev pub log_of : List ℕ → List ℕ
log_of input = drop 1 input

-- The code of an input, with so much room for its answers.
unfoldable pub input_code : List ℕ → ℕ → ℤ
input_code input room = cond (eqb (length input) 0) EINVAL (code_from_setup (setup_of input) (log_of input) room)

-- One answer with a code and value 0, over the front of the room.
abbrev pub refusal_room : ℤ → List ℕ → List ℕ
refusal_room code room = written (answer_bytes code 0) room

-- The code and the size of that one answer: with room under 8 bytes ENOMEM, and none is written.
abbrev pub refusal_size : ℕ → Answer ℕ
refusal_size room = answer (put_code room) (cond (is_ok (put_code room)) 8 0)

-- How many bytes the answers have: eight for each record, or one answer.
unfoldable pub respond_size : List ℕ → ℕ → Answer ℕ
respond_size input room = cond (is_ok (input_code input room)) (answer OK (length (log_of input) / 12 * 8)) (refusal_size room)

-- The room afterwards: the answers of the run, or the one answer.
unfoldable pub respond_room : List ℕ → List ℕ → List ℕ
respond_room input room =
    cond (is_ok (input_code input (length room))) (room_from_setup (setup_of input) (log_of input) room) (refusal_room (input_code input (length room)) room)

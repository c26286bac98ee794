-- 01, "Log records", "Runner": the records of a log one after the other, each answer in its place.
use Rattle.std.specs.Prelude.{ℕ, zero, suc, ◌*◌, ◌/◌, cond, List, [], ◌++◌, ℤ, length, take, drop}
use Rattle.error.specs.Codes.{is_ok}
use Rattle.error.specs.Answer.{Answer, answer}
use Rattle.machine.specs.declared.Machine.{Machine}
use Rattle.answers.specs.Answer.{answer_bytes, written}
use Rattle.log_tests.specs.RunCode.{run_code}
use Rattle.wellformed.specs.WellFormed.{well_formed}
use Rattle.operations.specs.Log.{state_at, answer_at}

-- An answer written into the rest of the buffer from a place on.
abbrev pub written_at : ℕ → Answer ℕ → List ℕ → List ℕ
written_at at a room = take at room ++ written (answer_bytes a.code a.value) (drop at room)

-- The answer buffer after the first k records.
unfoldable pub room_at : Machine → List ℕ → List ℕ → ℕ → List ℕ
room_at m log room zero = room
room_at m log room (suc k) = written_at (k * 8) (answer_at m log k) (room_at m log room k)

-- The bytes of the first k answers, one answer after the other.
unfoldable pub answers_of : Machine → List ℕ → ℕ → List ℕ
answers_of m log zero = []
answers_of m log (suc k) = answers_of m log k ++ answer_bytes (answer_at m log k).code (answer_at m log k).value

-- What goes with OK, and what with a refusal.
abbrev pub on_ok : {A : Type 0} → ℤ → A → A → A
on_ok code done refused = cond (is_ok code) done refused

-- The code and the machine of a run.
unfoldable pub ran : Machine → List ℕ → ℕ → Answer Machine
ran m log room =
    answer (run_code (well_formed m) (length log) room)
    (on_ok (run_code (well_formed m) (length log) room) (state_at m log (length log / 12)) m)

-- The whole answer buffer of a run: bytes past the last answer stay, and a refused run writes none.
unfoldable pub ran_room : Machine → List ℕ → List ℕ → List ℕ
ran_room m log room =
    on_ok (run_code (well_formed m) (length log) (length room)) (room_at m log room (length log / 12)) room

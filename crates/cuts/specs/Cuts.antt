-- 02, "Logs as they arrive": fragments that are fed one after the other, some of them perhaps refused.
use Rattle.std.specs.Prelude.{◌≡◌, ℕ, ◌*◌, ◌/◌, ◌%◌, Bool, true, ◌&&◌, List, [], ◌∷◌, ◌++◌, length, take, drop}
use Rattle.error.specs.Codes.{is_ok}
use Rattle.error.specs.Answer.{Answer}
use Rattle.machine.specs.declared.Machine.{Machine}
use Rattle.operations.specs.Log.{state_at}
use Rattle.runner.specs.Run.{answers_of, on_ok}
use Rattle.feed.specs.declared.Form.{Form}
use Rattle.feed.specs.Feed.{fed, fed_room}

-- A fragment, and the room that is lent for its answers.
pub record Fragment : Type 0 where
  pub bytes : List ℕ
  pub room : List ℕ

-- What feeding it gives.
abbrev pub fed_one : Form → Fragment → Answer (Form × ℕ)
fed_one f x = fed f x.bytes (length x.room)

-- The form after all of them.
unfoldable pub form_after : Form → List Fragment → Form
form_after f [] = f
form_after f (x ∷ xs) = form_after (fed_one f x).value.0 xs

-- Their answers one after the other: from each room 8 bytes for each record that the feed says it ran.
unfoldable pub answers_after : Form → List Fragment → List ℕ
answers_after f [] = []
answers_after f (x ∷ xs) = take ((fed_one f x).value.1 * 8) (fed_room f x.bytes x.room) ++ answers_after (fed_one f x).value.0 xs

-- The log that arrives: the bytes of the fragments that are not refused.
unfoldable pub log_taken : Form → List Fragment → List ℕ
log_taken f [] = []
log_taken f (x ∷ xs) = on_ok (fed_one f x).code x.bytes [] ++ log_taken (fed_one f x).value.0 xs

-- None of them is refused.
unfoldable pub all_taken : Form → List Fragment → Bool
all_taken f [] = true
all_taken f (x ∷ xs) = is_ok (fed_one f x).code && all_taken (fed_one f x).value.0 xs

-- The log that was cut: the bytes of every fragment.
unfoldable pub log_of : List Fragment → List ℕ
log_of [] = []
log_of (x ∷ xs) = x.bytes ++ log_of xs

-- How a log ends: its whole records have run on the machine, each with its answer, and the bytes behind them are pending.
pub record EndsAs (m : Machine) (log : List ℕ) (end : Form) (answers : List ℕ) : Type 0 where
  pub machine : end.machine ≡ state_at m log (length log / 12)
  pub answered : answers ≡ answers_of m log (length log / 12)
  pub pending : take end.count end.pending ≡ drop (length log / 12 * 12) log
  pub count : end.count ≡ length log % 12

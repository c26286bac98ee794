-- 01, "What must change shape": a value stands in lent room, and bytes past it stay.
use Rattle.std.specs.Prelude.{ℕ, ◌+◌, Bool, cond, List, ◌++◌, leb, length, take, drop, Option, None, Some}
use Rattle.words.specs.HighFirst.{from_high_first}

-- So much room has count bytes from a place on.
abbrev pub has_room : ℕ → ℕ → ℕ → Bool
has_room at count room = leb (at + count) room

-- The room with bytes from a place on, and every other byte as it was. Room too short for them is as it was.
unfoldable pub placed : ℕ → List ℕ → List ℕ → List ℕ
placed at bs room = cond (has_room at (length bs) (length room)) (take at room ++ bs ++ drop (at + length bs) room) room

-- The number in the four bytes from a place on; none where there are not four.
abbrev pub word_at : List ℕ → ℕ → Option ℕ
word_at bs at = cond (has_room at 4 (length bs)) (Some (from_high_first (take 4 (drop at bs)))) None

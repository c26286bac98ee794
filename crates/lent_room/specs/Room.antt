-- 01, "What must change shape": an exported call returns its code; on OK its value stands in lent room, high byte first.
use Rattle.std.specs.Prelude.{ℕ, Bool, cond, List, [], ◌∷◌, ◌++◌, ltb, ℤ, length, drop, replicate, Option, None, Some}
use Rattle.error.specs.Codes.{OK, ENOMEM, is_ok}
use Rattle.error.specs.Answer.{Answer, answer}
use Rattle.words.specs.HighFirst.{high_first}
use Rattle.spinlock_validate.specs.declared.Held.{Held}

-- A word has 8 bytes.
abbrev pub word_bytes : ℕ → List ℕ
word_bytes word = high_first 8 word

-- A mask has 4.
abbrev pub mask_bytes : ℕ → List ℕ
mask_bytes mask = high_first 4 mask

-- Yes or no has 1: yes is 1, no is 0.
abbrev pub yes_no_bytes : Bool → List ℕ
yes_no_bytes holds = cond holds 1 0 ∷ []

-- A decoding has thread 8, then CPU 1.
abbrev pub holder_bytes : ℕ → ℕ → List ℕ
holder_bytes thread cpu = high_first 8 thread ++ high_first 1 cpu

-- Who holds a lock: a decoding's bytes, nine zeros if nobody does.
abbrev pub held_bytes : Option Held → List ℕ
held_bytes None = replicate 9 0
held_bytes (Some held) = holder_bytes held.thread held.cpu

-- An answer with its value as bytes.
abbrev pub as_bytes : {A : Type 0} → (A → List ℕ) → Answer A → Answer (List ℕ)
as_bytes bytes a = answer a.code (bytes a.value)

-- The code that a call returns with so much room: its rule's, and ENOMEM last.
unfoldable pub call_code : Answer (List ℕ) → ℕ → ℤ
call_code a room = cond (is_ok a.code) (cond (ltb room (length a.value)) ENOMEM OK) a.code

-- The whole room afterwards: on OK the value over its front, and bytes past the value stay; a refusal leaves it all.
unfoldable pub call_room : Answer (List ℕ) → List ℕ → List ℕ
call_room a room = cond (is_ok (call_code a (length room))) (a.value ++ drop (length a.value) room) room

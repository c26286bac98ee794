-- What an operation comes to.
use Rattle.std.specs.Prelude.{Bool, true, false}

-- What an operation comes to: it is refused with an answer, or it answers and hands back new values for the cells that it writes. A refusal has
-- no room for a new value, so it changes nothing.
pub data Outcome (A W : Type 0) : Type 0 where
  refuse : A → Outcome A W
  accept : A → W → Outcome A W

-- The answer of an outcome.
abbrev pub answer_of : {A W : Type 0} → Outcome A W → A
answer_of (refuse a) = a
answer_of (accept a v) = a

-- The cells after an outcome, where they were `old` before it.
abbrev pub cells_after : {A W : Type 0} → W → Outcome A W → W
cells_after old (refuse a) = old
cells_after old (accept a v) = v

-- The answer and the cells together.
abbrev pub applied_to : {A W : Type 0} → W → Outcome A W → A × W
applied_to old o = (answer_of o, cells_after old o)

-- It was not refused.
abbrev pub accepted : {A W : Type 0} → Outcome A W → Bool
accepted (refuse a) = false
accepted (accept a w) = true

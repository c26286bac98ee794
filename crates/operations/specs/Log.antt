-- 01, "Log records", "Runner": the records of a log one after the other.
use Rattle.std.specs.Prelude.{ℕ, zero, suc, ◌*◌, List, take, drop}
use Rattle.error.specs.Answer.{Answer}
use Rattle.machine.specs.declared.Machine.{Machine}
use Rattle.operations.specs.Asked.{answered, next}

-- Record k of a log: twelve bytes.
abbrev pub record_at : List ℕ → ℕ → List ℕ
record_at log k = take 12 (drop (k * 12) log)

-- The machine after the first k records.
unfoldable pub state_at : Machine → List ℕ → ℕ → Machine
state_at m log zero = m
state_at m log (suc k) = next (state_at m log k) (record_at log k)

-- The answer to record k.
abbrev pub answer_at : Machine → List ℕ → ℕ → Answer ℕ
answer_at m log k = answered (state_at m log k) (record_at log k)

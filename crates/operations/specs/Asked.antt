-- 01, "Log records": the answer to one record, and the machine after it.
use Rattle.std.specs.Prelude.{ℕ, List}
use Rattle.error.specs.Answer.{Answer}
use Rattle.order.specs.Cells.{Op, after, reply}
use Rattle.machine.specs.declared.Machine.{Machine}
use Rattle.record.specs.Record.{request_of}
use Rattle.operations.specs.Cells.{machine_store}
use Rattle.operations.specs.Operations.{operation}

-- The operation that twelve bytes ask of a machine.
abbrev pub asked : Machine → List ℕ → Op machine_store (Answer ℕ)
asked m bytes = operation m.setup (request_of m.setup bytes)

-- The answer to a record, and the machine after it.
unfoldable pub answered : Machine → List ℕ → Answer ℕ
answered m bytes = reply machine_store (Answer ℕ) m (asked m bytes)

unfoldable pub next : Machine → List ℕ → Machine
next m bytes = after machine_store (Answer ℕ) m (asked m bytes)

-- The rows of the code, in the words of the table.
use Rattle.record.specs.Record.{Operand as TableOperand, none, flag, mask, priority, Row as TableRow, row}
use Rattle.record.specs.declared.Operand.{Operand}
use Rattle.record.specs.declared.Row.{Row}
use Rattle.record.specs.declared.Operation.{Operation}

-- What A or B may be.
abbrev pub operand_of : Operand → TableOperand
operand_of Operand.Zero = none
operand_of Operand.Flag = flag
operand_of Operand.Mask = mask
operand_of Operand.Priority = priority

-- The table's row that uses the same numbers and has the same A and B. What it asks for is no part of the form.
abbrev pub form_of : Row → TableRow
form_of r = row r.cpu r.thread r.lock (operand_of r.a) (operand_of r.b) (λ a b. Operation.Malformed)

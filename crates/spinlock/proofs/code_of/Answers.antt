-- The entry that is read is the rule's (`entry`), at the row and the column that the two index functions give. Assumes nothing.
use Rattle.spinlock.proofs.Table.{entry}
use Rattle.spinlock.proofs.code_of.Goals as goal

pub returns : goal.returns
returns c =
    let a = c.args in
    rw (c.row-i.ensures.0, c.column-j.ensures.0) (entry a.operation a.situation)

-- The entry that is read is the rule's (`entry_again`), at the last row and the column of the situation. Assumes nothing.
use Rattle.spinlock.proofs.Table.{entry_again}
use Rattle.spinlock.proofs.code_again.Goals as goal

pub returns : goal.returns
returns c = rw c.column-j.ensures.0 (entry_again c.args.situation)

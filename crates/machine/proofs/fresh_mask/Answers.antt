-- By the flag. Assumes nothing.
use Rattle.machine.specs.State.{thread_mask}
use Rattle.machine.proofs.fresh_mask.Goals as goal

pub returns-then-pin_only : goal.returns-then-pin_only
unfolding thread_mask
returns-then-pin_only c = simp c.if-pin_only.true

pub returns-else-pin_only : goal.returns-else-pin_only
unfolding thread_mask
returns-else-pin_only c = simp c.if-pin_only.false

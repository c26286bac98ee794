-- Each array is its element repeated. Assumes nothing.
use Rattle.machine.specs.State.{fresh_machine}
use Rattle.machine.proofs.fresh_machine.Goals as goal

pub returns : goal.returns
unfolding fresh_machine
returns c = simp c.fresh_mask-mask.ensures

-- Each arm is the rule's clause for its operation and situation; what the situation says of the depth is what the two steps ask.
-- Assumes nothing.
use mathlib.Core.Path.{sym, ◌∙◌}
use Rattle.spinlock.specs.Lock.{after}
use Rattle.spinlock.proofs.Situations.{own_says, full_says}
use Rattle.spinlock.proofs.SpinlockState.after.Goals as goal

pub deeper-requires : goal.deeper-requires
deeper-requires c =
    (own_says _ _ c.requires.situated.0 c.requires.valid (sym c.requires.situated.1 ∙ c.in-Own.is)).1

pub shallower-requires : goal.shallower-requires
shallower-requires c =
    (own_says _ _ c.requires.situated.0 c.requires.valid (sym c.requires.situated.1 ∙ c.in-Own-situation.is)).0.some

pub shallower-requires-in-Full-situation : goal.shallower-requires-in-Full-situation
shallower-requires-in-Full-situation c =
    (full_says _ _ c.requires.situated.0 c.requires.valid (sym c.requires.situated.1 ∙ c.in-Full-situation.is)).some

pub returns-in-Free : goal.returns-in-Free
unfolding after
returns-in-Free c = simp (c.in-Free.is, c.in-Acquire.is, c.taken_by.ensures)

pub returns-then-nested : goal.returns-then-nested
unfolding after
returns-then-nested c = simp (c.in-Own.is, c.in-Acquire.is, c.if-nested.true, c.deeper.ensures)

pub returns-else-nested : goal.returns-else-nested
unfolding after
returns-else-nested c = simp (c.in-Own.is, c.in-Acquire.is, c.if-nested.false)

pub returns-in-Full : goal.returns-in-Full
unfolding after
returns-in-Full c = simp (c.in-Full.is, c.in-Acquire.is)

pub returns-in-Foreign : goal.returns-in-Foreign
unfolding after
returns-in-Foreign c = simp (c.in-Foreign.is, c.in-Acquire.is)

pub returns-in-Free-situation : goal.returns-in-Free-situation
unfolding after
returns-in-Free-situation c = simp (c.in-Free-situation.is, c.in-Release.is)

pub returns-in-Own-situation : goal.returns-in-Own-situation
unfolding after
returns-in-Own-situation c = simp (c.in-Own-situation.is, c.in-Release.is, c.shallower.ensures)

pub returns-in-Full-situation : goal.returns-in-Full-situation
unfolding after
returns-in-Full-situation c = simp (c.in-Full-situation.is, c.in-Release.is, c.shallower-in-Full-situation.ensures)

pub returns-in-Foreign-situation : goal.returns-in-Foreign-situation
unfolding after
returns-in-Foreign-situation c = simp (c.in-Foreign-situation.is, c.in-Release.is)

-- The two cases of the rule; the sum fits, since the thread word leaves room for the CPU. Assumes nothing.
use mathlib.Core.Path.{sym, ◌∙◌}
use Rattle.spinlock_validate.specs.Owner.{spin_unlock_valid}
use Rattle.spinlock_validate.proofs.spin_unlock_valid.Goals as goal

pub returns-then-not-taggable : goal.returns-then-not-taggable
unfolding spin_unlock_valid
returns-then-not-taggable c = simp (sym c.taggable.ensures ∙ c.if-not-taggable.true)

pub returns : goal.returns
unfolding spin_unlock_valid
returns c = simp (sym c.taggable.ensures ∙ c.if-not-taggable.false)

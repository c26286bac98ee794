-- By the test of the record. Assumes nothing.
use borrow.Author.Rules.{rules}
use mathlib.Core.Path.{sym, ◌∙◌}
use Rattle.spinlock.specs.Lock.{read}
use Rattle.spinlock_reads.proofs.read.Goals as goal

pub returns-then-not-valid : goal.returns-then-not-valid
unfolding read
returns-then-not-valid g c refused = simp (sym c.valid.ensures ∙ c.if-not-valid.true)

pub returns : goal.returns
unfolding read
returns g c refused = simp (sym c.valid.ensures ∙ c.if-not-valid.false)

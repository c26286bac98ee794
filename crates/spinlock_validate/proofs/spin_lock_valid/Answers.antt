-- Each return is the rule's case that the tests on the way name. Assumes nothing.
use borrow.Author.Tests.{lt-ltb, le-ltb, eq-eqb, ne_eqb}
use Rattle.spinlock_validate.specs.Owner.{spin_lock_valid}
use Rattle.spinlock_validate.proofs.spin_lock_valid.Goals as goal

pub returns-then-current_cpu_id-tags : goal.returns-then-current_cpu_id-tags
unfolding spin_lock_valid
returns-then-current_cpu_id-tags c = simp (← c.tags.ensures, le-ltb _ _ c.if-current_cpu_id-tags.true)

pub returns-then-thread_cpu-eq0 : goal.returns-then-thread_cpu-eq0
unfolding spin_lock_valid
returns-then-thread_cpu-eq0 c = simp (← c.tags.ensures, lt-ltb _ _ c.if-current_cpu_id-tags.false, eq-eqb _ _ c.if-thread_cpu-eq0.true)

pub returns : goal.returns
unfolding spin_lock_valid
returns c =
    let fits = lt-ltb _ _ c.if-current_cpu_id-tags.false in
    simp (c.cpu_of.ensures, ← c.tags.ensures, fits, ne_eqb _ _ c.if-thread_cpu-eq0.false)

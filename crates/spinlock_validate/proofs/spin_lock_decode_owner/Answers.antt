-- Each return is the rule's case that the tests on the way name. Assumes nothing.
use borrow.Author.Tests.{lt-ltb, le-ltb, eq-eqb, ne_eqb}
use Rattle.spinlock_validate.specs.Owner.{spin_lock_decode_owner}
use Rattle.spinlock_validate.proofs.spin_lock_decode_owner.Goals as goal

pub returns-then-thread_cpu-eq0 : goal.returns-then-thread_cpu-eq0
unfolding spin_lock_decode_owner
returns-then-thread_cpu-eq0 c = simp (eq-eqb _ _ c.if-thread_cpu-eq0.true)

pub returns-then-thread_cpu-tags : goal.returns-then-thread_cpu-tags
unfolding spin_lock_decode_owner
returns-then-thread_cpu-tags c = simp (ne_eqb _ _ c.if-thread_cpu-eq0.false, ← c.tags.ensures, lt-ltb _ _ c.if-thread_cpu-tags.true)

pub returns : goal.returns
unfolding spin_lock_decode_owner
returns c =
    let some = ne_eqb _ _ c.if-thread_cpu-eq0.false in
    simp (c.cpu_of-cpu.ensures, some, ← c.tags.ensures, le-ltb _ _ c.if-thread_cpu-tags.false)

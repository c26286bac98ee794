-- Each return is the rule's case that the tests on the way name. Assumes nothing.
use mathlib.Core.Path.{sym, ◌∙◌}
use Rattle.lock_rules.proofs.Words.{held_is, word_is_made}
use Rattle.lock_rules.proofs.Asker.word_after.Goals as goal

pub returns : goal.returns
returns c =
    let a = c.args in
    let self = a.self in
    let taken = held_is a.next.owner ∙ c.if-is_none.ensures in
    let free = held_is a.lock.state.owner ∙ sym c.if-is_some.ensures in
    simp (taken, free) (c.word.ensures ∙ word_is_made self.setup self.cpu.0 self.thread.0 self.on_a_cpu)

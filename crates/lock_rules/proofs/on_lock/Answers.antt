-- By the current thread, and what the lock's rule comes to for it. Assumes nothing.
use mathlib.Core.Path.{sym, ◌∙◌}
use Rattle.rules.proofs.Ranged.{within}
use Rattle.lock_rules.proofs.Cases.{settles_refused, settles_done}
use Rattle.lock_rules.proofs.on_lock.Goals as goal

pub returns-in-Err : goal.returns-in-Err
returns-in-Err c =
    let a = c.args in
    let has = sym c.has_cpu.ensures ∙ c.if-not-has_cpu.false in
    let there = sym c.exists.ensures ∙ c.if-exists.true in
    settles_refused a.setup a.operation a.c.0 a.cpu.now a.lock.now c.in-Some.is there c.in-Err.why c.in-Err.ensures
    ∙ within (a.cpu.now, a.lock.now) _ has

pub returns-in-Ok : goal.returns-in-Ok
returns-in-Ok c =
    let a = c.args in
    let has = sym c.has_cpu.ensures ∙ c.if-not-has_cpu.false in
    let there = sym c.exists.ensures ∙ c.if-exists.true in
    settles_done a.setup a.operation a.c.0 a.cpu.now a.lock.now c.in-Some.is there c.in-Ok.next c.in-Ok.ensures c.word_after.ensures
    c.moved-cpu.ensures
    ∙ within (a.cpu.now, a.lock.now) _ has

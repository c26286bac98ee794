-- An invalid record is the rule's refusal; a valid one goes by its situation, with the table's code, and what is refused stays as it was.
-- Assumes nothing.
use mathlib.Core.Path.{sym, ap₂, ◌∙◌}
use Rattle.error.specs.Answer.{answer}
use Rattle.error.proofs.Answers.{says_refused}
use Rattle.error.proofs.OneResult.{refusal_is_not_ok}
use Rattle.spinlock.specs.Lock.{operate}
use Rattle.spinlock.proofs.Laws.{operated, after_refused}
use Rattle.spinlock.proofs.SpinlockState.operate.Goals as goal

pub returns-then-not-valid : goal.returns-then-not-valid
unfolding operate
returns-then-not-valid c = simp (sym c.valid.ensures ∙ c.if-not-valid.true)

pub returns-in_err-code_of : goal.returns-in_err-code_of
returns-in_err-code_of c =
    let a = c.args in
    let why = c.in_err-code_of.field-0.0 in
    let said = c.in_err-code_of.ensures in
    let stays = after_refused a.operation c.situation-situation.result a.self a.tid (λ ok. refusal_is_not_ok why (sym (said ∙ ok))) in
    says_refused a.self why c.from_residual.result c.from_residual.ensures.1 ∙ ap₂ answer said (sym stays)
    ∙ sym (operated a.operation a.self a.tid a.elsewhere (sym c.valid.ensures ∙ c.if-not-valid.false) (sym c.situation-situation.ensures))

pub returns : goal.returns
returns c =
    let a = c.args in
    ap₂ answer c.in_ok-code_of.ensures c.after.ensures
    ∙ sym (operated a.operation a.self a.tid a.elsewhere (sym c.valid.ensures ∙ c.if-not-valid.false) (sym c.situation-situation.ensures))

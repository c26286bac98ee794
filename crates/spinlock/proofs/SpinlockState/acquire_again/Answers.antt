-- An invalid record is refused; of a valid one the code is the table's, and the record the plain acquire's, which a refusal leaves too.
-- Assumes nothing.
use mathlib.Core.Path.{sym, ap₂, ◌∙◌}
use Rattle.error.specs.Answer.{answer}
use Rattle.error.proofs.Answers.{same_code, same_value, says_refused}
use Rattle.error.proofs.OneResult.{refusal_is_not_ok}
use Rattle.spinlock.specs.Lock.{acquire_again}
use Rattle.spinlock.proofs.Laws.{again_by, again_refused_unchanged}
use Rattle.spinlock.proofs.SpinlockState.acquire_again.Goals as goal

pub returns-then-not-valid : goal.returns-then-not-valid
unfolding acquire_again
returns-then-not-valid c = simp (sym c.valid.ensures ∙ c.if-not-valid.true)

pub returns-in_err-code_again : goal.returns-in_err-code_again
returns-in_err-code_again c =
    let a = c.args in
    let why = c.in_err-code_again.field-0.0 in
    let by = again_by a.self a.tid (sym c.valid.ensures ∙ c.if-not-valid.false) (sym c.situation-situation.ensures) in
    let said = c.in_err-code_again.ensures in
    let kept = again_refused_unchanged a.self a.tid (λ ok. refusal_is_not_ok why (sym (said ∙ sym (same_code by) ∙ ok))) in
    says_refused a.self why c.from_residual.result c.from_residual.ensures.1 ∙ ap₂ answer said (sym kept ∙ same_value by) ∙ sym by

pub returns : goal.returns
returns c =
    let a = c.args in
    let by = again_by a.self a.tid (sym c.valid.ensures ∙ c.if-not-valid.false) (sym c.situation-situation.ensures) in
    ap₂ answer c.in_ok-code_again.ensures c.after.ensures ∙ sym by

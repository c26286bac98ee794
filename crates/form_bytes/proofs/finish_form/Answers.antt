-- Too few bytes, and a form. Assumes nothing.
use mathlib.Core.Path.{◌∙◌}
use Rattle.error.proofs.Answers.{code_refused, same_code, same_value}
use Rattle.form_bytes.proofs.Forms.{finish_refused, finish_says}
use Rattle.form_bytes.proofs.finish_form.Goals as goal

pub returns-in_err-form : goal.returns-in_err-form
returns-in_err-form c =
    let form = c.in_err-form in
    code_refused form.field-0.0 c.from_residual.result c.from_residual.ensures.1
    ∙ finish_refused c.args.bytes.now form.field-0.0 (same_code form.ensures)

pub returns : goal.returns
returns c =
    let form = c.in_ok-form.ensures in
    finish_says c.args.bytes.now (same_code form) (same_value form) c.finish.ensures

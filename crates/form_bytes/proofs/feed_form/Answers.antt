-- Too few bytes, a fragment that is refused, and one that is taken. Assumes nothing.
use mathlib.Core.Path.{refl, ◌∙◌}
use Rattle.error.proofs.Answers.{says_refused, same_code, same_value, refusal_refuses}
use Rattle.form_bytes.proofs.Forms.{no_form, feed_refused, fed_count, feed_taken, room_again}
use Rattle.form_bytes.proofs.feed_form.Goals as goal

pub returns-in_err-form : goal.returns-in_err-form
returns-in_err-form c =
    let a = c.args in
    let why = c.in_err-form.field-0.0 in
    let told = no_form a.bytes.now a.fragment.now a.out.now why (same_code c.in_err-form.ensures) in
    record {
      fed = says_refused 0 why c.from_residual.result c.from_residual.ensures.1 ∙ told.0;
      form = told.1.0;
      back = told.1.1.0;
      room = told.1.1.1;
    }

pub returns-in_err-records : goal.returns-in_err-records
returns-in_err-records c =
    let a = c.args in
    let read = c.in_ok-form.ensures in
    let why = c.in_err-records.field-0.0 in
    let told = feed_refused a.bytes.now a.fragment.now a.out.now (same_code read) (same_value read) c.in_err-records.ensures.form
    c.in_err-records.ensures.room (refusal_refuses why) in
    record {
      fed = says_refused 0 why c.from_residual-in_err-records.result c.from_residual-in_err-records.ensures.1 ∙ told.0;
      form = told.1.0;
      back = told.1.1.0;
      room = told.1.1.1;
    }

pub put_form-requires : goal.put_form-requires
put_form-requires c =
    let a = c.args in
    let read = c.in_ok-form.ensures in
    fed_count a.bytes.now a.fragment.now a.out.now (same_code read) (same_value read) c.in_ok-records.ensures.form
    c.in_ok-records.ensures.room refl

pub returns-in_err-put_form : goal.returns-in_err-put_form
returns-in_err-put_form c =
    let a = c.args in
    let put = c.in_err-put_form in
    absurd (room_again a.bytes.now a.fragment.now a.out.now (same_code c.in_ok-form.ensures) put.field-0.0 put.ensures.code)

pub returns : goal.returns
returns c =
    let a = c.args in
    let read = c.in_ok-form.ensures in
    let put = c.in_ok-put_form.ensures in
    let told = feed_taken a.bytes.now a.fragment.now a.out.now (same_code read) (same_value read) c.in_ok-records.ensures.form
    c.in_ok-records.ensures.room refl _ put.room put.back in
    record { fed = told.0; form = told.1.0; back = told.1.1.0; room = told.1.1.1 }

-- A setup byte that is refused, a start that is refused, and a form with room for it or none. Assumes nothing.
use Rattle.form_bytes.proofs.Forms.{bad_setup, bad_start, none_pending, good_start}
use Rattle.form_bytes.proofs.start_form.Goals as goal

pub returns-in-Err : goal.returns-in-Err
returns-in-Err c =
    let a = c.args in
    let told = bad_setup a.setup a.out.now c.in-Err.why c.in-Err.ensures in
    record { code = told.0; room = told.1.0; back = told.1.1 }

pub returns-in-Err-start : goal.returns-in-Err-start
returns-in-Err-start c =
    let a = c.args in
    let told = bad_start a.setup a.out.now c.in-Ok.machine c.in-Ok.ensures c.in-Err-start.why c.in-Err-start.ensures in
    record { code = told.0; room = told.1.0; back = told.1.1 }

pub put_form-requires : goal.put_form-requires
put_form-requires c =
    let a = c.args in
    none_pending a.setup a.out.now c.in-Ok.machine c.in-Ok.ensures c.in-Ok-start.form c.in-Ok-start.ensures

pub returns-in-Ok-start : goal.returns-in-Ok-start
returns-in-Ok-start c =
    let a = c.args in
    let put = c.put_form.ensures in
    let told = good_start a.setup a.out.now c.in-Ok.machine c.in-Ok.ensures c.in-Ok-start.form c.in-Ok-start.ensures
    put.code put.room put.back in
    record { code = told.0; room = told.1.0; back = told.1.1 }

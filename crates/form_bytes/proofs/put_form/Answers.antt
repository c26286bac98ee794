-- The machine, the pending bytes and their number, one behind the other. Assumes nothing.
use mathlib.Core.Path.{◌≡◌}
use native.Mathlib.Omega.{arith}
use borrow.Author.Rules.{rules}
use lib.ListN.{length}
use Rattle.form_bytes.proofs.Stores.{no_lack, form_stored, form_back}
use Rattle.form_bytes.proofs.put_form.Goals as goal

pub returns-in_err-put_machine : goal.returns-in_err-put_machine
returns-in_err-put_machine c =
    let put = c.in_err-put_machine in
    absurd (no_lack (length c.args.out.now) c.if-out-lt-FORM_BYTES.false put.field-0.0 put.ensures.code)

pub returns-clause-room : goal.returns-clause-room
returns-clause-room c =
    let f = c.args.form.now in
    let eleven : length f.pending ≡ 11 = search rules in
    let put = c.in_ok-put_machine.ensures in
    form_stored f c.args.out.now eleven put.size c.if-out-lt-FORM_BYTES.false put.room c.copy_from_slice.ensures.after

pub returns-clause-back : goal.returns-clause-back
returns-clause-back c =
    let f = c.args.form.now in
    let room = c.args.out.now in
    let eleven : length f.pending ≡ 11 = search rules in
    let put = c.in_ok-put_machine.ensures in
    let enough = c.if-out-lt-FORM_BYTES.false in
    form_back f room eleven put.size enough (put.back (omega arith))
    (form_stored f room eleven put.size enough put.room c.copy_from_slice.ensures.after)

-- Enough bytes for a form are enough for a machine. Assumes nothing.
use Rattle.form_bytes.proofs.Stores.{no_refusal, form_read}
use Rattle.form_bytes.proofs.form_of.Goals as goal

pub returns-in_err-machine : goal.returns-in_err-machine
returns-in_err-machine c =
    absurd (no_refusal c.args.bytes.now c.if-bytes-lt-FORM_BYTES.false c.in_err-machine.field-0.0 c.in_err-machine.ensures)

pub returns : goal.returns
returns c =
    form_read c.args.bytes.now c.if-bytes-lt-FORM_BYTES.false c.in_ok-machine.ensures c.copy_from_slice.ensures.after c.from.ensures

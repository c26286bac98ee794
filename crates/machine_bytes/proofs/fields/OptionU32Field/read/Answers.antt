-- Whether it is there, and the number behind that. Assumes nothing.
use mathlib.Core.Path.{◌∙◌}
use lib.ListN.{drop}
use Rattle.machine_bytes.proofs.Places.{four_first}
use Rattle.machine_bytes.proofs.Cells.{tag_read}
use Rattle.machine_bytes.proofs.fields.OptionU32Field.read.Goals as goal

pub returns : goal.returns
returns c =
    let a = c.args in
    c.then_some.ensures ∙ tag_read (drop a.at a.bytes.now) c.read.ensures (c.read-number.ensures ∙ four_first a.bytes.now a.at 1)

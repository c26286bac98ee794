-- Each field is read at its place. Assumes nothing.
use Rattle.machine_bytes.proofs.Cells.{setup_read}
use Rattle.machine_bytes.proofs.elements.SetupField.read.Goals as goal

pub returns : goal.returns
returns c = setup_read _ c.args.bytes.now c.args.at c.read.ensures c.read-2.ensures c.read-3.ensures

-- The test is the definition's. Assumes nothing.
use mathlib.Core.Path.{sym}
use native.Mathlib.Nat.{add-zero}
use Rattle.machine_bytes.specs.Bytes.{yes_at}
use Rattle.machine_bytes.proofs.Places.{yes_from}
use Rattle.machine_bytes.proofs.fields.BoolField.read.Goals as goal

pub returns : goal.returns
unfolding yes_at
returns c =
    let a = c.args in
    sym (yes_from a.bytes.now a.at 0 a.at (add-zero a.at))

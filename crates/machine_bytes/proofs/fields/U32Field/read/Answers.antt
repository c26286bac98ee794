-- The four bytes make the definition's number. Assumes nothing.
use mathlib.Core.Path.{sym, ◌∙◌}
use native.Mathlib.Nat.{add-zero}
use Rattle.machine_bytes.specs.Bytes.{four_at}
use Rattle.machine_bytes.proofs.Places.{four_from}
use Rattle.machine_bytes.proofs.fields.U32Field.read.Goals as goal

pub returns : goal.returns
unfolding four_at
returns c =
    let a = c.args in
    c.join.ensures ∙ sym (four_from a.bytes.now a.at 0 a.at (add-zero a.at))

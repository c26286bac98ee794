-- The number is made of its halves. Assumes nothing.
use lib.ListN.{drop}
use Rattle.machine_bytes.proofs.Numbers.{from_halves}
use Rattle.machine_bytes.proofs.Places.{four_first}
use Rattle.machine_bytes.proofs.fields.U64Field.read.Goals as goal

pub returns : goal.returns
returns c =
    let a = c.args in
    rw (c.from.ensures, c.from-2.ensures, c.read-high.ensures, c.read-low.ensures, four_first a.bytes.now a.at 4) (from_halves (drop a.at a.bytes.now) 0)

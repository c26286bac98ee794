-- The number's bytes, copied over the room. Assumes nothing.
use mathlib.Core.Path.{◌∙◌}
use native.Mathlib.Omega.{arith}
use Rattle.words.proofs.HighFirst.{high_first_back}
use Rattle.machine_bytes.specs.Bytes.{four_bytes, four_at}
use Rattle.machine_bytes.specs.Sizes.{length_four}
use Rattle.machine_bytes.proofs.Numbers.{four_in_order}
use Rattle.machine_bytes.proofs.Stores.{copied}
use Rattle.machine_bytes.proofs.fields.U32Field.put.Goals as goal

pub returns-clause-room : goal.returns-clause-room
returns-clause-room c =
    let a = c.args in
    copied a.out.now (four_bytes a.self) c.copy_from_slice.new.self a.at 4 (length_four a.self)
    (c.copy_from_slice.ensures.after ∙ c.to_be_bytes.ensures ∙ four_in_order a.self) c.requires

pub returns-clause-back : goal.returns-clause-back
unfolding four_at four_bytes
returns-clause-back c rest = high_first_back 4 c.args.self (omega arith)

-- The number's bytes, copied over the room. Assumes nothing.
use mathlib.Core.Path.{◌∙◌}
use native.Mathlib.Omega.{arith}
use Rattle.words.proofs.HighFirst.{high_first_back}
use Rattle.machine_bytes.specs.Bytes.{eight_bytes, eight_at}
use Rattle.machine_bytes.specs.Sizes.{length_eight}
use Rattle.machine_bytes.proofs.Numbers.{eight_in_order}
use Rattle.machine_bytes.proofs.Stores.{copied}
use Rattle.machine_bytes.proofs.fields.U64Field.put.Goals as goal

pub returns-clause-room : goal.returns-clause-room
returns-clause-room c =
    let a = c.args in
    copied a.out.now (eight_bytes a.self) c.copy_from_slice.new.self a.at 8 (length_eight a.self)
    (c.copy_from_slice.ensures.after ∙ c.to_be_bytes.ensures ∙ eight_in_order a.self) c.requires

pub returns-clause-back : goal.returns-clause-back
unfolding eight_at eight_bytes
returns-clause-back c rest = high_first_back 8 c.args.self (omega arith)

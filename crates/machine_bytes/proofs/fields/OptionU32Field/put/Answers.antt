-- Whether it is there, and the number behind that. Assumes nothing.
use Rattle.std.specs.Prelude.{is_some, unwrap_or}
use Rattle.machine_bytes.specs.Bytes.{yes_bytes, four_bytes}
use Rattle.machine_bytes.specs.Sizes.{length_yes}
use Rattle.machine_bytes.proofs.Stores.{behind}
use Rattle.machine_bytes.proofs.Cells.{tag_back}
use Rattle.machine_bytes.proofs.fields.OptionU32Field.put.Goals as goal

pub returns-clause-room : goal.returns-clause-room
returns-clause-room c =
    let a = c.args in
    let t = a.self in
    behind a.out.now a.at (yes_bytes (is_some t)) (four_bytes (unwrap_or t 0)) 1 (length_yes (is_some t))
    (rw c.is_some.ensures at c.put.ensures.room) (rw c.unwrap_or.ensures at c.put-2.ensures.room)

pub returns-clause-back : goal.returns-clause-back
returns-clause-back c =
    tag_back c.args.self (rw c.is_some.ensures at c.put.ensures.back) (rw c.unwrap_or.ensures at c.put-2.ensures.back)

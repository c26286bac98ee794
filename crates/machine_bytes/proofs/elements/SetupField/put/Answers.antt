-- Three runs of stores, one behind the other. Assumes nothing.
use Rattle.machine_bytes.proofs.Cells.{setup_stored, setup_back}
use Rattle.machine_bytes.proofs.elements.SetupField.put.Goals as goal

pub returns-clause-room : goal.returns-clause-room
returns-clause-room c =
    let a = c.args in
    setup_stored a.self a.out.now a.at c.put.ensures.room c.put-2.ensures.room c.put-3.ensures.room

pub returns-clause-back : goal.returns-clause-back
returns-clause-back c = setup_back c.args.self c.put.ensures.back c.put-2.ensures.back c.put-3.ensures.back

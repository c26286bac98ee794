-- A bad setup byte is refused, and another's machine runs the log (`Cases`). Assumes nothing.
use Rattle.setup_run.proofs.Cases.{bad_setup, good_setup}
use Rattle.setup_run.proofs.run_from_setup.Goals as goal

pub returns-in-Err : goal.returns-in-Err
returns-in-Err c =
    let a = c.args in
    let told = bad_setup a.setup a.log.now a.out.now c.in-Err.why c.in-Err.ensures in
    record { code = told.0; room = told.1 }

pub returns-in-Ok : goal.returns-in-Ok
returns-in-Ok c =
    let a = c.args in
    let told = good_setup a.setup a.log.now a.out.now c.in-Ok.machine c.in-Ok.ensures
    c.run.new.out c.run.ensures.machine c.run.ensures.room in
    record { code = told.0; room = told.1 }

-- By the length of the room, and the parts stored behind one another (`Whole`). Assumes nothing.
use Rattle.machine_bytes.proofs.Whole.{Lengths, no_room, enough_room, machine_stored}
use Rattle.machine_bytes.proofs.put_machine.Goals as goal

pub returns-then-out-lt-MACHINE_BYTES : goal.returns-then-out-lt-MACHINE_BYTES
returns-then-out-lt-MACHINE_BYTES c =
    let good = c.well_formed.1.0 in
    let made : Lengths c.args.m = record {
      cpus = good.1.1.1.0.1.0.1;
      threads = good.1.1.1.1.0.1.0.1;
      locks = good.1.1.1.1.1.0.1.0.1;
    } in
    let told = no_room c.args.m made c.args.out.now c.if-out-lt-MACHINE_BYTES.true in
    record {
      code = told.0;
      room = told.1.0;
      size = told.1.1.0;
      back = told.1.1.1.0;
      read = told.1.1.1.1;
    }

pub returns : goal.returns
returns c =
    let good = c.well_formed.1.0 in
    let made : Lengths c.args.m = record {
      cpus = good.1.1.1.0.1.0.1;
      threads = good.1.1.1.1.0.1.0.1;
      locks = good.1.1.1.1.1.0.1.0.1;
    } in
    let m = c.args.m in
    let room = c.args.out.now in
    let told = enough_room m made room _ c.if-out-lt-MACHINE_BYTES.false
    (machine_stored m made room c.put.ensures.room c.put_each.ensures.room c.put_each-2.ensures.room c.put_each-3.ensures.room)
    (record {
      setup = c.put.ensures.back;
      cpus = rw made.cpus at c.put_each.ensures.back;
      threads = rw made.threads at c.put_each-2.ensures.back;
      locks = rw made.locks at c.put_each-3.ensures.back;
    }) in
    record {
      code = told.0;
      room = told.1.0;
      size = told.1.1.0;
      back = told.1.1.1.0;
      read = told.1.1.1.1;
    }

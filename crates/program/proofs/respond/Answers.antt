-- Each return is one of the three ways (`Cases`), from what the calls ensure. Assumes nothing.
use mathlib.Core.Path.{◌∙◌}
use Rattle.program.proofs.Cases.{no_setup, refused_run, whole_run}
use Rattle.program.proofs.respond.Goals as goal

pub returns-in_default-clause-size : goal.returns-in_default-clause-size
returns-in_default-clause-size c =
    let told = no_setup c.args.input.now c.args.out.now c.in_default.ensures.cases in c.refuse.ensures.size ∙ told.0

pub returns-in_default-clause-room : goal.returns-in_default-clause-room
returns-in_default-clause-room c =
    let told = no_setup c.args.input.now c.args.out.now c.in_default.ensures.cases in c.refuse.ensures.room ∙ told.1

pub returns-in-Ok-clause-size : goal.returns-in-Ok-clause-size
returns-in-Ok-clause-size c =
    let first = c.in-Some.ensures.cases.0 in
    let told = whole_run first c.args.out.now c.in-Ok.ensures.code c.in-Ok.ensures.room in told.0

pub returns-in-Ok-clause-room : goal.returns-in-Ok-clause-room
returns-in-Ok-clause-room c =
    let first = c.in-Some.ensures.cases.0 in
    let told = whole_run first c.args.out.now c.in-Ok.ensures.code c.in-Ok.ensures.room in told.1

pub returns-in-Err-clause-size : goal.returns-in-Err-clause-size
returns-in-Err-clause-size c =
    let first = c.in-Some.ensures.cases.0 in
    let told = refused_run first c.args.out.now c.in-Err.why c.in-Err.ensures.code c.in-Err.ensures.room in
    c.refuse-in-Err.ensures.size ∙ told.0

pub returns-in-Err-clause-room : goal.returns-in-Err-clause-room
returns-in-Err-clause-room c =
    let first = c.in-Some.ensures.cases.0 in
    let told = refused_run first c.args.out.now c.in-Err.why c.in-Err.ensures.code c.in-Err.ensures.room in
    c.refuse-in-Err.ensures.room ∙ told.1

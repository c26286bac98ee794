-- By the code of the tests: a refused run leaves what it was given, and what holds of a log that is run is what the loop asks for. Assumes
-- nothing.
use mathlib.Core.Path.{refl, sym, ap, ◌∙◌}
use lib.IntN.{ℤ}
use Rattle.error.specs.Codes.{is_ok}
use Rattle.error.specs.Answer.{answer}
use Rattle.error.proofs.Answers.{code_refused, refusal_refuses}
use Rattle.log_tests.proofs.Accepted.{machine_formed, room_enough}
use Rattle.runner.proofs.Records.{ran_refused, ran_whole, formed_setup}
use Rattle.runner.proofs.run.Goals as goal

pub returns-in_err-run_code-clause-machine : goal.returns-in_err-run_code-clause-machine
returns-in_err-run_code-clause-machine c =
    let a = c.args in
    let why = c.in_err-run_code.field-0.0 in
    let told = ran_refused a.m.now a.log.now a.out.now c.well_formed-2.ensures c.in_err-run_code.ensures (refusal_refuses why) in
    ap (λ (n : ℤ). answer n a.m.now) (code_refused why c.from_residual.result c.from_residual.ensures.1) ∙ told.0

pub returns-in_err-run_code-clause-room : goal.returns-in_err-run_code-clause-room
returns-in_err-run_code-clause-room c =
    let a = c.args in
    let why = c.in_err-run_code.field-0.0 in
    let told = ran_refused a.m.now a.log.now a.out.now c.well_formed-2.ensures c.in_err-run_code.ensures (refusal_refuses why) in
    told.1

pub run_records-requires-clause-good_setup : goal.run_records-requires-clause-good_setup
run_records-requires-clause-good_setup c =
    let fine = ap is_ok (sym c.in_ok-run_code.ensures) in
    formed_setup _ (sym c.well_formed-2.ensures ∙ machine_formed _ _ _ fine)

pub run_records-requires-clause-room_fits : goal.run_records-requires-clause-room_fits
run_records-requires-clause-room_fits c = room_enough _ _ _ (ap is_ok (sym c.in_ok-run_code.ensures))

pub returns-clause-machine : goal.returns-clause-machine
returns-clause-machine c =
    let a = c.args in
    let whole = ran_whole a.m.now a.log.now a.out.now c.well_formed-2.ensures c.in_ok-run_code.ensures refl in
    ap (answer _) c.run_records.ensures.machine ∙ whole.0

pub returns-clause-room : goal.returns-clause-room
returns-clause-room c =
    let a = c.args in
    let whole = ran_whole a.m.now a.log.now a.out.now c.well_formed-2.ensures c.in_ok-run_code.ensures refl in
    c.run_records.ensures.room ∙ whole.1

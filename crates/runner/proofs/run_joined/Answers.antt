-- By the code of the tests, as a run: refused, or the two runs one after the other. Assumes nothing.
use mathlib.Core.Path.{◌≡◌, refl, ap, ◌∙◌}
use lib.IntN.{ℤ}
use lib.ListN.{length}
use native.Mathlib.Omega.{arith}
use Rattle.error.specs.Answer.{answer}
use Rattle.error.proofs.Answers.{code_refused, refusal_refuses}
use Rattle.runner.proofs.Joined.{joined_refused, joined_passed, others_setup, joined_whole}
use borrow.Author.Rules.{rules}
use Rattle.runner.proofs.run_joined.Goals as goal

pub returns-in_err-run_code-clause-machine : goal.returns-in_err-run_code-clause-machine
returns-in_err-run_code-clause-machine c =
    let a = c.args in
    let twelve : length a.first ≡ 12 = search rules in
    let why = c.in_err-run_code.field-0.0 in
    let told = joined_refused a.m.now a.first a.others.now a.out.now twelve c.well_formed-2.ensures c.in_err-run_code.ensures (refusal_refuses why) in
    ap (λ (n : ℤ). answer n a.m.now) (code_refused why c.from_residual.result c.from_residual.ensures.1) ∙ told.0

pub returns-in_err-run_code-clause-room : goal.returns-in_err-run_code-clause-room
returns-in_err-run_code-clause-room c =
    let a = c.args in
    let twelve : length a.first ≡ 12 = search rules in
    let why = c.in_err-run_code.field-0.0 in
    let told = joined_refused a.m.now a.first a.others.now a.out.now twelve c.well_formed-2.ensures c.in_err-run_code.ensures (refusal_refuses why) in
    told.1

pub run_records-requires-clause-good_setup : goal.run_records-requires-clause-good_setup
run_records-requires-clause-good_setup c =
    let a = c.args in
    let twelve : length a.first ≡ 12 = search rules in
    let passed = joined_passed a.m.now a.first a.others.now a.out.now twelve c.well_formed-2.ensures c.in_ok-run_code.ensures refl in
    passed.setup

pub run_records-requires-clause-room_fits : goal.run_records-requires-clause-room_fits
run_records-requires-clause-room_fits c =
    let a = c.args in
    let twelve : length a.first ≡ 12 = search rules in
    let passed = joined_passed a.m.now a.first a.others.now a.out.now twelve c.well_formed-2.ensures c.in_ok-run_code.ensures refl in
    omega (arith, passed.first_fits)

pub slice_bounds-run_records-count : goal.slice_bounds-run_records-count
slice_bounds-run_records-count c =
    let a = c.args in
    let twelve : length a.first ≡ 12 = search rules in
    let passed = joined_passed a.m.now a.first a.others.now a.out.now twelve c.well_formed-2.ensures c.in_ok-run_code.ensures refl in
    omega (arith, passed.first_fits)

pub slice_bounds-run_records-start : goal.slice_bounds-run_records-start
slice_bounds-run_records-start c =
    let a = c.args in
    let twelve : length a.first ≡ 12 = search rules in
    let passed = joined_passed a.m.now a.first a.others.now a.out.now twelve c.well_formed-2.ensures c.in_ok-run_code.ensures refl in
    omega (arith, passed.first_fits)

pub run_records-requires-2-clause-good_setup : goal.run_records-requires-2-clause-good_setup
run_records-requires-2-clause-good_setup c =
    let a = c.args in
    let twelve : length a.first ≡ 12 = search rules in
    others_setup a.m.now a.first a.others.now a.out.now twelve c.well_formed-2.ensures c.in_ok-run_code.ensures refl
    c.run_records.ensures.machine

pub run_records-requires-2-clause-room_fits : goal.run_records-requires-2-clause-room_fits
run_records-requires-2-clause-room_fits c =
    let a = c.args in
    let twelve : length a.first ≡ 12 = search rules in
    let passed = joined_passed a.m.now a.first a.others.now a.out.now twelve c.well_formed-2.ensures c.in_ok-run_code.ensures refl in
    omega (arith, passed.others_fit)

pub returns-clause-machine : goal.returns-clause-machine
returns-clause-machine c =
    let a = c.args in
    let twelve : length a.first ≡ 12 = search rules in
    let whole = joined_whole a.m.now a.first a.others.now a.out.now twelve c.well_formed-2.ensures c.in_ok-run_code.ensures refl
    _ _ c.run_records.ensures.machine c.run_records.ensures.room c.run_records-2.ensures.machine c.run_records-2.ensures.room in
    whole.0

pub returns-clause-room : goal.returns-clause-room
returns-clause-room c =
    let a = c.args in
    let twelve : length a.first ≡ 12 = search rules in
    let whole = joined_whole a.m.now a.first a.others.now a.out.now twelve c.well_formed-2.ensures c.in_ok-run_code.ensures refl
    _ _ c.run_records.ensures.machine c.run_records.ensures.room c.run_records-2.ensures.machine c.run_records-2.ensures.room in
    whole.1

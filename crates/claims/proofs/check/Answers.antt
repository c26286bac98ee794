-- Each return by the tests before it (`Cases`). Assumes nothing.
use mathlib.Core.Path.{◌∙◌}
use Rattle.claims.proofs.Cases.{verdict_refused, bad_setup, bad_size, made_formed, found_says, log_short}
use Rattle.claims.proofs.check.Goals as goal

pub returns-in-Err : goal.returns-in-Err
returns-in-Err c =
    let a = c.args in
    bad_setup a.setup a.log.now a.claim.now c.in-Err.why c.in-Err.ensures

pub returns-in_err-size_code : goal.returns-in_err-size_code
returns-in_err-size_code c =
    let a = c.args in
    let why = c.in_err-size_code.field-0.0 in
    let from = c.from_residual in
    verdict_refused why from.result from.ensures.1
    ∙ bad_size a.setup a.log.now a.claim.now c.in-Ok.ensures why c.in_err-size_code.ensures

pub lowest_wrong-requires-clause-formed : goal.lowest_wrong-requires-clause-formed
lowest_wrong-requires-clause-formed c =
    let a = c.args in
    made_formed a.setup a.log.now a.claim.now c.in-Ok.ensures

pub lowest_wrong-requires-clause-short_log : goal.lowest_wrong-requires-clause-short_log
lowest_wrong-requires-clause-short_log c = log_short c.args.log.now c.args.claim.now c.in_ok-size_code.ensures

pub returns : goal.returns
returns c =
    let a = c.args in
    found_says a.setup a.log.now a.claim.now c.in-Ok.ensures c.in_ok-size_code.ensures c.lowest_wrong.result c.lowest_wrong.ensures

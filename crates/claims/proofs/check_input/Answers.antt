-- An input without a setup byte is refused, and of another the log behind it is checked (`Cases`). Assumes nothing.
use mathlib.Core.Path.{◌∙◌}
use Rattle.claims.proofs.Cases.{no_setup, with_setup}
use Rattle.claims.proofs.check_input.Goals as goal

pub returns-in_default : goal.returns-in_default
returns-in_default c = no_setup c.args.input.now c.args.claim.now c.in_default.ensures.cases

pub returns : goal.returns
returns c = c.check.ensures ∙ with_setup c.in-Some.ensures.cases.0 c.args.claim.now

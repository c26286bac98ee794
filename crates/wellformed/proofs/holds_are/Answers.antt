-- The answer of `all` is of the test at each CPU. Assumes nothing.
use Rattle.std.proofs.Common.{rules}
use Rattle.wellformed.proofs.Tests.{all_tested}
use Rattle.wellformed.proofs.holds_are.Goals as goal

pub returns : goal.returns
returns c = all_tested _ _ _ (search rules)

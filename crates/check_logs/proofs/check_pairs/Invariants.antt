-- The counts add up to the pairs so far.
use Rattle.std.proofs.Common.{◌+◌, ◌≡◌}
use Rattle.check_logs.proofs.check_pairs.Given as goal

abbrev pub invariant-loop-pair : goal.invariant-loop-pair
invariant-loop-pair g l = l.tally.accepted + l.tally.differs + l.tally.refused ≡ l.pair

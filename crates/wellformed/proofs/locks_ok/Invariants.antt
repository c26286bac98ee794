-- The loop's invariant: the test holds of the locks so far, and `sums` are the sums over them. Assumes nothing.
use Rattle.std.proofs.Common.{◌≡◌, true}
use Rattle.words.specs.Below.{all_below}
use Rattle.wellformed.specs.WellFormed.{lock_ok}
use Rattle.wellformed.proofs.Sums.{Summed}
use Rattle.wellformed.proofs.locks_ok.Given as goal

abbrev pub invariant-loop-k : goal.invariant-loop-k
invariant-loop-k l = (all_below (lock_ok l.fn.m) l.k-index ≡ true) × Summed l.fn.m l.sums l.k-index

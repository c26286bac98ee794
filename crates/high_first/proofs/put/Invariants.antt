-- The loop stores from the last byte to the first: all but the first `i` bytes are stored, and `rest` is the number without those that are.
-- Assumes nothing.
use mathlib.Core.Path.{◌≡◌}
use Rattle.high_first.proofs.Stores.{stored, unstored}
use Rattle.high_first.proofs.put.Given as goal

abbrev pub invariant-loop-i : goal.invariant-loop-i
invariant-loop-i l =
    (l.rest ≡ unstored l.initial.out l.at l.count l.number l.i) × (l.out ≡ stored l.initial.out l.at l.count l.number l.i)

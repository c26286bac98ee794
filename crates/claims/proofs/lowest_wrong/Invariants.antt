-- Before each turn so many blocks are cut off log and claim, the machine has run their records, and no claimed answer of theirs differs.
-- Assumes nothing.
use Rattle.claims.proofs.Turns.{Before}
use Rattle.claims.proofs.lowest_wrong.Given as goal

abbrev pub invariant-loop-block : goal.invariant-loop-block
invariant-loop-block l =
    let it = l.block-iterator in
    (goal.iterator-loop-block).can_next it × (goal.iterator-loop-block).is_finite it
    × Before l.initial.m l.log l.claim it.count it.iter.a.size it.iter.a.rest.now it.iter.b.size it.iter.b.rest.now l.m

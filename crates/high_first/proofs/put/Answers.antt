-- The loop stores from the last byte to the first (`Stores`). Assumes nothing.
use native.Mathlib.Omega.{arith}
use mathlib.Core.Path.{◌≡◌, ◌∙◌}
use lib.ListN.{length}
use Prim.Native.Nat.{◌+◌, ◌<◌}
use Rattle.high_first.proofs.Stores.{none_stored, next_stored, all_stored, no_room}
use Rattle.high_first.proofs.put.Goals.{then-out-at-via-then-out-at, then-out-at-via-else-out-at+then-out-at-2}
use Rattle.high_first.proofs.put.Goals as goal

pub returns-then-out-at-clause-room : goal.returns-then-out-at-clause-room
returns-then-out-at-clause-room c =
    let a = c.args in
    let short : length a.out.now < a.at + a.count = elim c.then-out-at.branch [
      | then-out-at-via-then-out-at w ↦ omega arith
      | then-out-at-via-else-out-at+then-out-at-2 w ↦ omega arith
    ] in
    (no_room a.out.now a.at a.count a.number short).1

pub loop-i-init : goal.loop-i-init
loop-i-init c = let a = c.args in none_stored a.out.now a.at a.count a.number

pub loop-i-preserved : goal.loop-i-preserved
loop-i-preserved c =
    let a = c.args in
    let i = c.loop-i.invariant in
    let k = next_stored a.out.now a.at a.count a.number c.loop-i.i (omega arith) (omega arith) in
    (rw i.0 k.0, rw (i.1, i.0) k.1)

pub returns-clause-room : goal.returns-clause-room
returns-clause-room c =
    let a = c.args in
    let none : c.loop-i.i ≡ 0 = omega arith in
    c.loop-i.invariant.1 ∙ rw none (all_stored a.out.now a.at a.count a.number (omega arith)).1

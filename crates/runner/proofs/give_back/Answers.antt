-- A turn frees the lock at the index or leaves it; behind the last one all are given back. Assumes nothing.
use mathlib.Core.Path.{◌≡◌, sym, ◌∙◌}
use Prim.Native.Nat.{◌+◌, ◌<◌}
use native.Mathlib.Omega.{arith}
use lib.ListN.{length}
use lib.Seq.{set-get_or}
use Rattle.machine.specs.State.{free_lock}
use Rattle.runner.proofs.GivenBack.{partly, freed_next, kept_next, turned}
use Rattle.runner.proofs.give_back.Goals as goal
use Rattle.runner.proofs.give_back.Goals.{then-names, else-names}

pub loop-lock-preserved : goal.loop-lock-preserved
loop-lock-preserved c =
    let a = c.args in
    let loop = c.loop-lock in
    let before = a.locks.now in
    let inside : loop.lock-index < length before = omega (arith, c.loop-lock-test.true, c.told-locks) in
    let freed = freed_next a.setup a.c.0 before loop.locks loop.lock-index loop.invariant inside in
    let kept = kept_next a.setup a.c.0 before loop.locks loop.lock-index loop.invariant inside in
    let given : c.if-names.locks ≡ partly a.setup a.c.0 before (loop.lock-index + 1) = elim c.if-names.branch [
      | then-names w ↦ w.locks-is ∙ freed (sym c.names.ensures ∙ w.if-names.true)
      | else-names w ↦ w.locks-is ∙ set-get_or loop.locks loop.lock-index free_lock ∙ kept (sym c.names.ensures ∙ w.if-names.false)
    ] in
    given

pub returns : goal.returns
returns c =
    let loop = c.loop-lock in
    loop.invariant ∙ turned c.args.setup c.args.c.0 c.args.locks.now loop.lock-index (omega (arith, c.told-locks, c.loop-lock-test.false, loop.auto.lock-index-end))

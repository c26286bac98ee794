-- The loop's invariant: the test holds of the locks so far, and `sums` are the sums over them. Assumes nothing.
use Rattle.std.proofs.Common.{◌≡◌, ◌+◌, ◌<◌, ◌&&◌, false, eqb, sym, ap, ◌∙◌, rules, arith}
use Rattle.machine.specs.State.{cpu_slots, lock_count, cpu_at}
use Rattle.machine.proofs.Size.{named_in_slots}
use Rattle.words.specs.Below.{all_below}
use Rattle.wellformed.specs.WellFormed.{sum_below, hold_ok, lock_ok}
use Rattle.wellformed.proofs.Tests.{turn_one, all_same, all_tested}
use Rattle.wellformed.proofs.Sums.{Summed, none_yet, turn_free, turn_named}
use Rattle.wellformed.proofs.locks_ok.Goals as goal
use Rattle.wellformed.proofs.locks_ok.Goals.{then-k-ne0, else-k-ne0}

pub loop-k-init : goal.loop-k-init
unfolding all_below
loop-k-init c = (search rules, none_yet _)

pub returns-then-not-lock_ok : goal.returns-then-not-lock_ok
returns-then-not-lock_ok c =
    let m = c.args.m.now in
    let locks = all_tested (lock_ok m) lock_count false (c.loop-k.k-index, omega arith, sym c.if-not-lock_ok.ensures) in
    ap (λ b. b && all_below (hold_ok m) cpu_slots) locks

pub loop-k-preserved : goal.loop-k-preserved
loop-k-preserved c =
    let m = c.args.m.now in
    let summed : Summed m c.if-k-ne0.sums (c.loop-k.k-index + 1) = elim c.if-k-ne0.branch [
      | then-k-ne0 w ↦
          let below : w.cpu_of-c.result.0 < cpu_slots = rw w.cpu_of-c.ensures (named_in_slots m.setup _) in
          rw w.sums-is
          (turn_named m _ _ _ _ c.loop-k.invariant.1 (sym w.cpu_of-c.ensures) below (w.from.ensures ∙ w.depth_for.ensures) (omega arith))
      | else-k-ne0 w ↦ rw w.sums-is (turn_free m _ _ c.loop-k.invariant.1 w.if-k-ne0.false)
    ] in
    (turn_one _ _ c.loop-k.invariant.0 c.if-not-lock_ok.ensures, summed)

pub returns : goal.returns
returns c =
    let loop = c.loop-k in
    let m = c.args.m.now in
    let all : loop.k-index ≡ lock_count = omega arith in
    let holds = all_same _ (hold_ok m) cpu_slots (λ i h. ap (eqb (cpu_at m i).hold) (loop.invariant.1.each i h ∙ ap (sum_below _) all)) in
    let locks = sym loop.invariant.0 ∙ ap (all_below (lock_ok m)) all in
    c.holds_are.ensures ∙ holds ∙ ap (λ b. b && all_below (hold_ok m) cpu_slots) locks

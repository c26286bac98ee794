-- Counts that do not fit are refused. The loop sets out with the CPUs that can match, and `Walked` is kept by each turn. The measure is how many
-- of them are ahead: a turn takes exactly one off (`cleared_ones`) and the loop ends at none, so it has as many turns as there are CPUs that can
-- match. Assumes nothing.
use Prim.Native.Nat.{◌≤◌, ◌<◌}
use native.Mathlib.Omega.{arith}
use mathlib.Core.Path.{sym, ap, ◌∙◌}
use mir.Syntax.{w32}
use mir.ValLaws.{to_z-of_z}
use Rattle.error.specs.Codes.{OK}
use Rattle.error.specs.Answer.{answer}
use Rattle.words.proofs.Lowest.{cleared_ones}
use Rattle.ipi.specs.Ipi.{compute_ipi_mask}
use Rattle.ipi.proofs.Laws.{counts_say, ipi_succeeds}
use Rattle.ipi.proofs.Walk.{sets_out, walk_begins, walk_ends, here_can, turn}
use Rattle.ipi.proofs.compute_ipi_mask.Goals as goal

pub returns-then-not-counts_fit : goal.returns-then-not-counts_fit
unfolding compute_ipi_mask
returns-then-not-counts_fit c = rw (sym c.counts_fit.ensures ∙ c.if-not-counts_fit.true)

pub loop-ahead-init : goal.loop-ahead-init
loop-ahead-init c =
    let a = c.args in
    let r = counts_say _ _ _ (sym c.counts_fit.ensures ∙ c.if-not-counts_fit.false) in
    let few : a.num_cpus < 32 = omega (arith, r.few, r.within) in
    let start = sets_out a.current_cpu a.target_cpu_mask a.num_cpus (omega (arith, r.present)) few in
    let within : a.num_cpus ≤ 32 = omega (arith, few) in
    (r, start, rw start (walk_begins a.current_cpu _ a.target_cpu_mask a.cpus a.num_cpus within))

pub bounds-cpus-idx : goal.bounds-cpus-idx
bounds-cpus-idx c =
    let i = c.loop-ahead.invariant in
    let some : 0 < c.loop-ahead.ahead = omega arith in
    omega (arith, (here_can some i.2).0, i.0.within, i.0.few)

pub loop-ahead-preserved : goal.loop-ahead-preserved
loop-ahead-preserved c =
    let i = c.loop-ahead.invariant in
    let some : 0 < c.loop-ahead.ahead = omega arith in
    (i.0, i.1, rw c.runs_less-less.ensures (turn some i.2))

-- A turn takes exactly one off the measure.
pub loop-ahead-smaller : goal.loop-ahead-smaller
loop-ahead-smaller c =
    let some : 0 < c.loop-ahead.ahead = omega arith in
    omega (arith, cleared_ones 32 c.loop-ahead.ahead some c.loop-ahead.invariant.2.ahead_fits)

pub returns : goal.returns
returns c =
    let i = c.loop-ahead.invariant in
    let a = c.args in
    let w = rw (c.loop-ahead-test.false, to_z-of_z w32 a.target_prio c.ranges.target_prio) at i.2 in
    let few : a.num_cpus ≤ 32 = omega (arith, i.0.few, i.0.within) in
    ap (answer OK) (walk_ends a.current_cpu a.target_prio a.target_cpu_mask a.cpus a.num_cpus few w)
    ∙ sym (ipi_succeeds a.current_cpu a.target_prio a.target_cpu_mask a.cpus a.num_cpus a.max_cpus i.0)

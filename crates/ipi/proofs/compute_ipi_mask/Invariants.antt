-- Counts that do not fit are refused. The loop sets out with the CPUs that can match, and `Walked` is kept by each turn. The measure is how many
-- of them are ahead: a turn takes exactly one off (`cleared_ones`) and the loop ends at none, so it has as many turns as there are CPUs that can
-- match. Assumes nothing.
use mathlib.Core.Path.{◌≡◌}
use lib.Count.{ones}
use Rattle.ipi.proofs.Laws.{InRange}
use Rattle.ipi.proofs.Walk.{matching, Walked}
use Rattle.ipi.proofs.compute_ipi_mask.Given as goal

abbrev pub invariant-loop-ahead : goal.invariant-loop-ahead
invariant-loop-ahead l =
    InRange l.current_cpu l.num_cpus l.max_cpus × (l.initial.ahead ≡ matching l.current_cpu l.target_cpu_mask l.num_cpus)
    × Walked l.current_cpu l.target_prio l.target_cpu_mask l.cpus l.num_cpus l.ahead l.mask

abbrev pub decreases-loop-ahead : goal.decreases-loop-ahead
decreases-loop-ahead l = ones l.ahead

-- The CPUs passed so far are decoded, and each of them has an active byte of 0 or 1. Assumes nothing.
use mathlib.Core.Path.{◌≡◌}
use mathlib.Core.Bool.{true}
use Rattle.cpu_bytes.specs.Cpus.{active_bytes, cpus_of_bytes}
use Rattle.cpu_bytes.proofs.decode.Given as goal

abbrev pub invariant-loop-idx : goal.invariant-loop-idx
invariant-loop-idx l = (active_bytes l.cpus l.idx ≡ true) × (l.records ≡ cpus_of_bytes l.cpus l.idx)

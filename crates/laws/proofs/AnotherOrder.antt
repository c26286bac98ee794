-- Rearrange a log, and keep the order of every two records of which one writes a cell that the other reads or writes: each record gets the same
-- answer, and the end machine is the same. So it does not matter which of two CPUs' records a log shows first, unless they touch the same
-- cell. It holds from every machine, well-formed or not.
--
-- `Rearranged` (a permutation of the positions) stands in rearranged/specs/Rearranged.antt, `Clash` and 01's table of cells in Clash.antt beside
-- it; `state_at` and `answer_at`, the runner's own, in operations/specs/Log.antt. The proof is in rearranged/proofs/Laws.antt. Assumes nothing.
use mathlib.Core.Path.{◌≡◌}
use mathlib.Core.List.{List}
use Prim.Native.Nat.{ℕ, ◌<◌}
use Rattle.machine.specs.declared.Machine.{Machine}
use Rattle.operations.specs.Log.{state_at, answer_at}
use Rattle.rearranged.specs.Rearranged.{Rearranged}
use Rattle.rearranged.proofs.Laws.{rearranged_log}

-- Place k of the new log has the record that place π k of the old one has.
pub another_order : (m : Machine) (count : ℕ) (old new : List ℕ) (π : ℕ → ℕ) → Rearranged m.setup count old new π
    → (state_at m new count ≡ state_at m old count) × ((k : ℕ) → k < count → answer_at m new k ≡ answer_at m old (π k))
another_order m count old new π r = let same = rearranged_log m count old new π r in (same.state, same.each)

-- An array that has given CPUs in their places, one store at a time; and that the rule finds the same in any two such arrays, since it looks at no
-- place from num on. Assumes nothing.
use mathlib.Core.Path.{◌≡◌, sym, ap, ◌∙◌}
use mathlib.Core.Logic.{◌⊎◌, inl, inr}
use mathlib.Core.List.{List}
use Prim.Native.Nat.{ℕ, ◌+◌, ◌<◌}
use native.Mathlib.Omega.{arith}
use lib.IntN.{ℤ}
use lib.ListN.{length, get_or, set}
use lib.Seq.{get_or-set_same, get_or-set_other}
use Rattle.words.proofs.Choice.{same_or}
use Rattle.words.proofs.BitsOf.{bits_of_same}
use Rattle.ipi.specs.Ipi.{no_cpu, gets, eligible, compute_ipi_mask}
use Rattle.ipi.specs.declared.CpuRecord.{CpuRecord}

-- The first num of these CPUs are in their places.
abbrev pub Placed : (ℕ → CpuRecord) → ℕ → List CpuRecord → Type 0
Placed cpu num cpus = (i : ℕ) → i < num → get_or cpus i no_cpu ≡ cpu i

module _ (cpu : ℕ → CpuRecord) where
  -- One CPU more.
  pub next_placed : (num : ℕ) (cpus : List CpuRecord) → num < length cpus → Placed cpu num cpus → Placed cpu (num + 1) (set cpus num (cpu num))
  next_placed num cpus room all i h = by (same_or i num)
    where
      by : (i ≡ num) ⊎ (i ≡ num → ⊥) → get_or (set cpus num (cpu num)) i no_cpu ≡ cpu i
      by (inl last) = rw last (get_or-set_same cpus num (cpu num) no_cpu room)
      by (inr other) = get_or-set_other cpus num i (cpu num) no_cpu other ∙ all i (omega arith)

  pub same_rule : (current : ℕ) (target : ℤ) (mask num max : ℕ) (one other : List CpuRecord) → Placed cpu num one → Placed cpu num other
      → compute_ipi_mask current target mask one num max ≡ compute_ipi_mask current target mask other num max
  unfolding compute_ipi_mask
  same_rule current target mask num max one other p q =
      rw (bits_of_same (eligible current target mask one) (eligible current target mask other) num
      (λ i h. ap (gets current target mask i) (p i h ∙ sym (q i h))))

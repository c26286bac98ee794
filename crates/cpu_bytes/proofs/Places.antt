-- The definition's array has the decoded CPUs in their places, so the rule finds in it what it finds in any array that has them. Assumes nothing.
use mathlib.Core.Path.{◌≡◌, refl, ◌∙◌}
use mathlib.Core.List.{List}
use Prim.Native.Nat.{ℕ, zero, suc, ◌*◌, ◌≤◌}
use native.Mathlib.Nat.{not-suc-le-zero}
use native.Mathlib.Numerals.{add-one}
use native.Mathlib.Omega.{arith}
use lib.IntN.{ℤ}
use lib.ListN.{length, length-set}
use Rattle.ipi.specs.Ipi.{compute_ipi_mask}
use Rattle.ipi.specs.declared.CpuRecord.{CpuRecord}
use Rattle.ipi.proofs.Places.{next_placed, same_rule}
use Rattle.cpu_bytes.specs.Cpus.{cpu_of_bytes, cpus_of_bytes, InPlaces}

-- CPU i of these bytes.
abbrev pub decoded : List ℕ → ℕ → CpuRecord
decoded bs i = cpu_of_bytes bs (5 * i)

cpus_length : (bs : List ℕ) (num : ℕ) → length (cpus_of_bytes bs num) ≡ 16
unfolding cpus_of_bytes
cpus_length bs zero = refl
cpus_length bs (suc num) = length-set (cpus_of_bytes bs num) num (decoded bs num) ∙ cpus_length bs num

defined_in_place : (bs : List ℕ) (num : ℕ) → num ≤ 16 → InPlaces bs num (cpus_of_bytes bs num)
unfolding cpus_of_bytes
defined_in_place bs zero few i h = absurd (not-suc-le-zero h)
defined_in_place bs (suc num) few i h =
    next_placed (decoded bs) num (cpus_of_bytes bs num) (omega (arith, cpus_length bs num)) (defined_in_place bs num (omega arith)) i (rw add-one h)

pub same_answer : (current : ℕ) (target : ℤ) (mask : ℕ) (bs : List ℕ) (num max : ℕ) (cpus : List CpuRecord) → num ≤ 16 → InPlaces bs num cpus
    → compute_ipi_mask current target mask cpus num max ≡ compute_ipi_mask current target mask (cpus_of_bytes bs num) num max
same_answer current target mask bs num max cpus few all =
    same_rule (decoded bs) current target mask num max cpus (cpus_of_bytes bs num) all (defined_in_place bs num few)

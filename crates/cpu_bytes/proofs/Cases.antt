-- The three ways in which the interrupt rule answers bytes, over plain variables: of the wrong form, of a wrong active byte, and as the rule says. Assumes nothing.
use mathlib.Core.Path.{◌≡◌, refl}
use mathlib.Core.Bool.{Bool, true, false, cond}
use mathlib.Core.List.{List}
use mathlib.Core.Logic.{◌⊎◌, inl, inr}
use native.Mathlib.Omega.{arith}
use Prim.Native.Nat.{ℕ, ◌*◌, ◌≤◌}
use lib.IntN.{ℤ}
use lib.ListN.{length}
use borrow.Author.Tests.{eq-eqb, ne_eqb}
use Rattle.error.specs.Codes.{EINVAL}
use Rattle.error.specs.Answer.{answer}
use Rattle.words.proofs.Choice.{bool_ind, same_or}
use Rattle.ipi.specs.Ipi.{counts_fit, compute_ipi_mask}
use Rattle.ipi.proofs.Laws.{InRange, counts_say}
use Rattle.cpu_bytes.specs.Cpus.{active_bytes, cpus_of_bytes, ipi_mask_of_bytes}

-- A test between two equal answers is no test.
same_either_way : {A : Type 0} (t : Bool) (a : A) → cond t a a ≡ a
same_either_way true a = refl
same_either_way false a = refl

-- Counts out of range do not fit.
unfit : (current num max : ℕ) → (InRange current num max → ⊥) → counts_fit current num max ≡ false
unfit current num max out =
    bool_ind (λ t. t ≡ false) (counts_fit current num max) (λ good. absurd (out (counts_say current num max good))) (λ _. refl)

module _ (current : ℕ) (target : ℤ) (mask : ℕ) (bs : List ℕ) (num max : ℕ) where
  wrong_number : (InRange current num max → ⊥) → answer EINVAL 0 ≡ ipi_mask_of_bytes current target mask bs num max
  unfolding ipi_mask_of_bytes compute_ipi_mask
  wrong_number out = simp (unfit current num max out, same_either_way)

  wrong_length : (length bs ≡ 5 * num → ⊥) → answer EINVAL 0 ≡ ipi_mask_of_bytes current target mask bs num max
  unfolding ipi_mask_of_bytes
  wrong_length other = rw (ne_eqb (length bs) (5 * num) other)

  -- Too many CPUs, or another length.
  pub wrong_form : (num ≤ 16 → length bs ≡ 5 * num → ⊥) → answer EINVAL 0 ≡ ipi_mask_of_bytes current target mask bs num max
  wrong_form wrong = by (same_or (length bs) (5 * num))
    where
      by : (length bs ≡ 5 * num) ⊎ (length bs ≡ 5 * num → ⊥) → answer EINVAL 0 ≡ ipi_mask_of_bytes current target mask bs num max
      by (inl long) = wrong_number (λ r. wrong (omega (arith, r.few, r.within)) long)
      by (inr other) = wrong_length other

  module _ (long : length bs ≡ 5 * num) where
    pub wrong_active : active_bytes bs num ≡ false → answer EINVAL 0 ≡ ipi_mask_of_bytes current target mask bs num max
    unfolding ipi_mask_of_bytes
    wrong_active bad = rw (eq-eqb (length bs) (5 * num) long, bad)

    pub ruled : active_bytes bs num ≡ true → (z : ℤ) → z ≡ target
        → compute_ipi_mask current z mask (cpus_of_bytes bs num) num max ≡ ipi_mask_of_bytes current target mask bs num max
    unfolding ipi_mask_of_bytes
    ruled good z same = rw (same, eq-eqb (length bs) (5 * num) long, good)

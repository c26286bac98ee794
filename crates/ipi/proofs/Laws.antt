-- Laws of interrupt masks: of every bit when it is set, when the call must succeed, and that every computed mask passes the test.
-- Assumes nothing.
use mathlib.Core.Path.{◌≡◌, refl, sym, ap, subst, ◌∙◌}
use mathlib.Core.Bool.{Bool, true, false, ◌&&◌, not, cond, and-false}
use mathlib.Core.List.{List}
use Prim.Native.Nat.{ℕ, ◌^◌, ◌≤◌, ◌<◌}
use native.Mathlib.Nat.{lt_of_lt_of_le}
use lib.Dec.{eqb, ltb, leb}
use lib.IntN.{ℤ}
use lib.ListN.{get_or}
use lib.Pow.{pow_mono}
use lib.Signed.{lt_z}
use borrow.Author.Tests.{lt-ltb, le-leb, eq-eqb, leb-true, ltb-true}
use Rattle.error.specs.Codes.{OK, EINVAL}
use Rattle.error.specs.Answer.{answer}
use Rattle.error.proofs.Answers.{same_value, refused_not_done}
use Rattle.words.specs.Bit.{bit, bits_of}
use Rattle.words.proofs.Choice.{bool_ind, and_left, and_right}
use Rattle.words.proofs.BitsOf.{bits_of_lt, bit_bits_of}
use Rattle.ipi.specs.Ipi.{max_ipi_cpus, no_cpu, candidate, gets, eligible, counts_fit, compute_ipi_mask, validate_ipi_mask}
use Rattle.ipi.specs.declared.CpuRecord.{CpuRecord}

-- Who is no candidate: the current CPU, one that is down, one that the mask leaves out.
module _ (current mask i : ℕ) (cpu : CpuRecord) where
  pub current_excluded : i ≡ current → candidate current mask i cpu ≡ false
  current_excluded e = rw (eq-eqb i current e)

  pub inactive_excluded : cpu.active ≡ false → candidate current mask i cpu ≡ false
  inactive_excluded down = rw (down, and-false)

  pub barred_excluded : bit i mask ≡ false → candidate current mask i cpu ≡ false
  barred_excluded barred = rw (barred, and-false, and-false)

-- None of these gets an interrupt, whichever priorities outrank the target's.
pub excluded_clear : (current mask : ℕ) (cpus : List CpuRecord) (num i : ℕ) (ranks : ℕ → Bool) → candidate current mask i (get_or cpus i no_cpu) ≡ false
    → bit i (bits_of (λ j. candidate current mask j (get_or cpus j no_cpu) && ranks j) num) ≡ false
excluded_clear current mask cpus num i ranks out =
    bit_bits_of (λ j. candidate current mask j (get_or cpus j no_cpu) && ranks j) num i ∙ rw (out, and-false)

-- What the call asks of its numbers.
pub record InRange (current num max : ℕ) : Type 0 where
  pub few : max ≤ max_ipi_cpus
  pub within : num ≤ max
  pub present : current < num

pub counts_say : (current num max : ℕ) → counts_fit current num max ≡ true → InRange current num max
counts_say current num max good =
    let rest = and_right (leb max max_ipi_cpus) _ good in
    record {
      few = leb-true max max_ipi_cpus (and_left (leb max max_ipi_cpus) _ good);
      within = leb-true num max (and_left (leb num max) _ rest);
      present = ltb-true current num (and_right (leb num max) _ rest);
    }

-- Four tests, one after the other.
in_turn : (a b c d : Bool) → (a && (b && c)) && d ≡ a && (b && (c && d))
in_turn false b c d = refl
in_turn true false c d = refl
in_turn true true c d = refl

module _ (current : ℕ) (target : ℤ) (mask : ℕ) (cpus : List CpuRecord) (num max : ℕ) where
  -- It must succeed in that range, and the answer is then this mask.
  pub ipi_succeeds : InRange current num max
      → compute_ipi_mask current target mask cpus num max ≡ answer OK (bits_of (eligible current target mask cpus) num)
  unfolding compute_ipi_mask
  ipi_succeeds r = rw (le-leb max max_ipi_cpus r.few, le-leb num max r.within, lt-ltb current num r.present)

  -- It succeeds in no other.
  pub ipi_only_then : (m : ℕ) → compute_ipi_mask current target mask cpus num max ≡ answer OK m
      → InRange current num max × (m ≡ bits_of (eligible current target mask cpus) num)
  unfolding compute_ipi_mask
  ipi_only_then m =
      bool_ind
      (λ b. (b ≡ true → InRange current num max) → cond b (answer OK all) (answer EINVAL 0) ≡ answer OK m → InRange current num max × (m ≡ all))
      (counts_fit current num max) (λ _ says e. (says refl, sym (same_value e))) (λ _ _ e. absurd (refused_not_done 21 e)) (counts_say current num max)
    where
      all : ℕ
      all = bits_of (eligible current target mask cpus) num

  -- The mask is clear at every CPU that is no candidate.
  excluded : (m i : ℕ) → compute_ipi_mask current target mask cpus num max ≡ answer OK m → candidate current mask i (get_or cpus i no_cpu) ≡ false
      → bit i m ≡ false
  unfolding gets
  excluded m i e out =
      ap (bit i) (ipi_only_then m e).1 ∙ excluded_clear current mask cpus num i (λ j. lt_z target (get_or cpus j no_cpu).priority) out

  -- Bit i, for every i: below num, not current, active, allowed, and of strictly greater priority than the target.
  pub ipi_bit : (m i : ℕ) → compute_ipi_mask current target mask cpus num max ≡ answer OK m
      → bit i m ≡ ltb i num
      && (not (eqb i current) && ((get_or cpus i no_cpu).active && (bit i mask && lt_z target (get_or cpus i no_cpu).priority)))
  unfolding gets
  ipi_bit m i e =
      ap (bit i) (ipi_only_then m e).1 ∙ bit_bits_of (eligible current target mask cpus) num i
      ∙ ap (λ (b : Bool). ltb i num && b) (in_turn (not (eqb i current)) (get_or cpus i no_cpu).active (bit i mask) _)

  -- The current CPU is never in the mask.
  pub ipi_spares_current : (m : ℕ) → compute_ipi_mask current target mask cpus num max ≡ answer OK m → bit current m ≡ false
  ipi_spares_current m e = excluded m current e (current_excluded current mask current (get_or cpus current no_cpu) refl)

  -- Nor is a CPU that is down.
  pub ipi_spares_inactive : (m i : ℕ) → compute_ipi_mask current target mask cpus num max ≡ answer OK m → (get_or cpus i no_cpu).active ≡ false → bit i m ≡ false
  ipi_spares_inactive m i e down = excluded m i e (inactive_excluded current mask i (get_or cpus i no_cpu) down)

  -- Nor one that the target may not run on.
  pub ipi_spares_barred : (m i : ℕ) → compute_ipi_mask current target mask cpus num max ≡ answer OK m → bit i mask ≡ false → bit i m ≡ false
  ipi_spares_barred m i e barred = excluded m i e (barred_excluded current mask i (get_or cpus i no_cpu) barred)

  -- The mask is below 2 to the power num, and so below 2 to the power max.
  pub ipi_below : (m : ℕ) → compute_ipi_mask current target mask cpus num max ≡ answer OK m → m < 2 ^ max
  ipi_below m e =
      let only = ipi_only_then m e in
      subst (λ (x : ℕ). x < 2 ^ max) (sym only.1) (lt_of_lt_of_le (bits_of_lt (eligible current target mask cpus) num) (pow_mono only.0.within))

  -- Every computed mask passes the test for the same current CPU and max.
  pub computed_passes : (m : ℕ) → compute_ipi_mask current target mask cpus num max ≡ answer OK m → validate_ipi_mask m current max ≡ answer OK true
  unfolding validate_ipi_mask
  computed_passes m e =
      let r = (ipi_only_then m e).0 in
      rw (
        le-leb max max_ipi_cpus r.few,
        lt-ltb current max (lt_of_lt_of_le r.present r.within),
        ipi_spares_current m e,
        lt-ltb m (2 ^ max) (ipi_below m e),
      )

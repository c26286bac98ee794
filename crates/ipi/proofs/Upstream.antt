-- Upstream's clauses of ipi.rs, each as a lemma about the rules here. compute_ipi_mask promises nothing upstream; its header's properties
-- IP1 to IP5 are lemmas here. Upstream's test of a bit, `mask & (1 << i) != 0`, is `bit` (`bit_set_is_bit`). Assumes nothing.
use mathlib.Core.Path.{◌≡◌, sym, ap, subst, ◌∙◌}
use mathlib.Core.Logic.{◌⊎◌, inl, inr}
use mathlib.Core.Bool.{Bool, true, false, ◌&&◌, not}
use mathlib.Core.List.{List}
use Prim.Native.Nat.{ℕ, ◌/◌, ◌^◌, ◌≤◌, ◌<◌}
use native.Mathlib.Nat.{lt_of_lt_of_le}
use native.Mathlib.Omega.{arith}
use lib.Bits.{bit_and}
use lib.Dec.{eqb, ltb}
use lib.IntN.{ℤ}
use lib.ListN.{get_or}
use lib.Pow.{pow_mono}
use lib.Signed.{lt_z}
use borrow.Author.Tests.{lt-ltb, le-ltb, le-leb, ltb-true, not-true}
use Rattle.error.specs.Codes.{OK}
use Rattle.error.specs.Answer.{answer}
use Rattle.words.specs.Bit.{bit, bits_of}
use Rattle.words.proofs.Choice.{below_or, and_left, and_right}
use Rattle.words.proofs.Bits.{bit_above_width, bit_ext}
use Rattle.words.proofs.BitTests.{test_bit, top_test}
use Rattle.words.proofs.BitsOf.{bits_of_lt, bit_bits_of}
use Rattle.ipi.specs.Ipi.{max_ipi_cpus, no_cpu, eligible, compute_ipi_mask, validate_ipi_mask}
use Rattle.ipi.specs.declared.CpuRecord.{CpuRecord}
use Rattle.ipi.proofs.Laws.{ipi_only_then, ipi_bit, ipi_spares_current, ipi_below}

-- bit_set.
pub bit_set_is_bit : (mask i : ℕ) → not (eqb (bit_and mask (2 ^ i)) 0) ≡ bit i mask
bit_set_is_bit mask i = test_bit i mask

-- mask_bounded: no bit from n on, which is to be below 2 ^ n.
abbrev pub MaskBounded : ℕ → ℕ → Type 0
MaskBounded mask n = (i : ℕ) → n ≤ i → i < 32 → bit i mask ≡ false

pub below_is_bounded : (mask n : ℕ) → mask < 2 ^ n → MaskBounded mask n
below_is_bounded mask n h i from _ = bit_above_width n i mask h from

pub bounded_is_below : (mask n : ℕ) → n ≤ 32 → mask < 2 ^ 32 → MaskBounded mask n → mask < 2 ^ n
bounded_is_below mask n few fits bounded =
    let low : ℕ → Bool = λ i. bit i mask in
    let same : mask ≡ bits_of low n =
    bit_ext 32 mask (bits_of low n) fits (lt_of_lt_of_le (bits_of_lt low n) (pow_mono few)) (λ i h. by i h (below_or i n) ∙ sym (bit_bits_of low n i)) in
    subst (λ (x : ℕ). x < 2 ^ n) (sym same) (bits_of_lt low n)
  where
    by : (i : ℕ) → i < 32 → (i < n) ⊎ (n ≤ i) → bit i mask ≡ ltb i n && bit i mask
    by i h (inl l) = ap (λ (b : Bool). b && bit i mask) (sym (lt-ltb i n l))
    by i h (inr l) = bounded i l h ∙ ap (λ (b : Bool). b && bit i mask) (sym (le-ltb i n l))

module _ (current : ℕ) (target : ℤ) (mask : ℕ) (cpus : List CpuRecord) (num max m : ℕ) (e : compute_ipi_mask current target mask cpus num max ≡ answer OK m) where
  -- IP1: the current CPU is never in the mask.
  pub IP1 : bit current m ≡ false
  IP1 = ipi_spares_current current target mask cpus num max m e

  -- cpu_eligible: what a set bit says of its CPU.
  pub record Eligible (i : ℕ) : Type 0 where
    pub present : i < num
    pub other : eqb i current ≡ false
    pub active : (get_or cpus i no_cpu).active ≡ true
    pub allowed : bit i mask ≡ true
    pub less : lt_z target (get_or cpus i no_cpu).priority ≡ true

  -- IP2, IP3 and IP4: only CPUs within num_cpus, allowed by the mask, with a priority above the target's.
  pub set_is_eligible : (i : ℕ) → bit i m ≡ true → Eligible i
  set_is_eligible i set =
      let all = sym (ipi_bit current target mask cpus num max m i e) ∙ set in
      let a = and_right (ltb i num) _ all in
      let b = and_right (not (eqb i current)) _ a in
      let d = and_right (get_or cpus i no_cpu).active _ b in
      record {
        present = ltb-true i num (and_left (ltb i num) _ all);
        other = not-true (eqb i current) (and_left (not (eqb i current)) _ a);
        active = and_left (get_or cpus i no_cpu).active _ b;
        allowed = and_left (bit i mask) _ d;
        less = and_right (bit i mask) _ d;
      }

  pub IP2 : (i : ℕ) → bit i m ≡ true → i < num
  IP2 i set = (set_is_eligible i set).present

  pub IP3 : (i : ℕ) → bit i m ≡ true → bit i mask ≡ true
  IP3 i set = (set_is_eligible i set).allowed

  pub IP4 : (i : ℕ) → bit i m ≡ true → lt_z target (get_or cpus i no_cpu).priority ≡ true
  IP4 i set = (set_is_eligible i set).less

  -- IP5: no stray high bits.
  pub IP5 : MaskBounded m max
  IP5 = below_is_bounded m max (ipi_below current target mask cpus num max m e)

-- single-CPU-zero: with one CPU the mask is 0.
pub single_cpu_zero : (current : ℕ) (target : ℤ) (mask : ℕ) (cpus : List CpuRecord) (max m : ℕ) → compute_ipi_mask current target mask cpus 1 max ≡ answer OK m
    → m ≡ 0
unfolding bit
single_cpu_zero current target mask cpus max m e =
    let only = ipi_only_then current target mask cpus 1 max m e in
    let spared : bit 0 m ≡ false = rw (one current only.0.present) at (ipi_spares_current current target mask cpus 1 max m e) in
    bit_ext 1 m 0 (rw only.1 (bits_of_lt (eligible current target mask cpus) 1)) (omega arith) (λ i h. rw (one i h) spared)
  where
    one : (i : ℕ) → i < 1 → i ≡ 0
    one i h = omega arith

-- validate_ipi_mask: the answer is that the current bit is not set and that nothing is left above max_cpus.
pub validate_is_upstreams : (mask current max : ℕ) → max ≤ max_ipi_cpus → current < max
    → validate_ipi_mask mask current max ≡ answer OK (not (not (eqb (bit_and mask (2 ^ current)) 0)) && eqb (mask / 2 ^ max) 0)
unfolding validate_ipi_mask
validate_is_upstreams mask current max few present =
    rw (le-leb max max_ipi_cpus few, lt-ltb current max present, bit_set_is_bit mask current, top_test max mask)

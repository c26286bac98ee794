-- The walk goes from one CPU that can match to the next and looks at each once. Between two turns the bits found are those of the answer, but for
-- the CPUs that are still ahead; where none is ahead, they are the answer. Assumes nothing.
use mathlib.Core.Path.{◌≡◌, refl, sym, ap, ap₂, ◌∙◌}
use mathlib.Core.Logic.{◌⊎◌, inl, inr}
use mathlib.Core.Bool.{Bool, true, false, ◌&&◌, ◌||◌, not, and-true, and-false, or-false}
use mathlib.Core.List.{List}
use Prim.Native.Nat.{ℕ, ◌-◌, ◌*◌, ◌%◌, ◌^◌, ◌≤◌, ◌<◌}
use native.Mathlib.Nat.{lt_of_le_of_lt, lt_of_lt_of_le, le_trans, mod-lt}
use native.Mathlib.Omega.{arith}
use lib.Bits.{bit_and, bit_or, and_le_l, and_le_r, or_lt}
use lib.Count.{count_trailing_zeros}
use lib.Dec.{eqb, ltb}
use lib.IntN.{ℤ}
use lib.ListN.{get_or}
use lib.Pow.{pow_pos, pow-lt, pow_mono}
use lib.Signed.{lt_z}
use borrow.Author.Tests.{lt-ltb, ltb-true, eq-eqb, ne_eqb}
use mir.Val.{bool_byte}
use Rattle.words.specs.Bit.{bit, bit_not, bits_of}
use Rattle.words.proofs.Choice.{same_or, and_left, and_right}
use Rattle.words.proofs.Bits.{bit_of_and, bit_of_or, bit_of_not, bit_ones, bit_pow, bit_above, bit_ext}
use Rattle.words.proofs.BitTests.{shl_one, shl_flag}
use Rattle.words.proofs.BitsOf.{bits_of_lt, bit_bits_of, bits_of_only}
use Rattle.words.proofs.Lowest.{cleared, lowest_set, cleared_bit}
use Rattle.ipi.specs.Ipi.{no_cpu, gets, eligible}
use Rattle.ipi.specs.declared.CpuRecord.{CpuRecord}

-- CPU i can match: it isn't current, and its affinity bit is set.
abbrev pub can_match : ℕ → ℕ → ℕ → Bool
can_match current mask i = not (eqb i current) && bit i mask

-- The CPUs below num that can match. The walk has a turn for each of them, and no other.
abbrev pub matching : ℕ → ℕ → ℕ → ℕ
matching current mask num = bits_of (can_match current mask) num

-- CPU i is active, and its priority is strictly greater than the target's.
abbrev pub runs_less : ℤ → List CpuRecord → ℕ → Bool
runs_less target cpus i = (get_or cpus i no_cpu).active && lt_z target (get_or cpus i no_cpu).priority

-- These are the CPUs that the code sets out with.
module _ (current mask num : ℕ) (present : current < 32) (few : num < 32) where
  abbrev below : ℕ
  below = (1 * 2 ^ num) % 2 ^ 32 - 1

  abbrev others : ℕ
  others = bit_not 32 ((1 * 2 ^ current) % 2 ^ 32)

  below_bit : (i : ℕ) → i < num → bit i below ≡ true
  below_bit i h = rw (shl_one 32 num few) (bit_ones num i h)

  other_bit : (i : ℕ) → i < num → bit i others ≡ not (eqb i current)
  other_bit i h = rw (shl_one 32 current present) (bit_of_not 32 i (2 ^ current) (omega arith) (pow-lt present) ∙ ap not (bit_pow i current))

  turned : (a b : Bool) → a && (true && b) ≡ b && a
  turned true b = sym (and-true b)
  turned false b = sym (and-false b)

  pub sets_out : bit_and mask (bit_and below others) ≡ matching current mask num
  sets_out =
      bits_of_only (can_match current mask) num (bit_and mask (bit_and below others))
      (lt_of_le_of_lt (le_trans (and_le_r mask (bit_and below others)) (and_le_l below others)) (rw (shl_one 32 num few) (omega (arith, pow_pos num))))
      (λ i h. rw (bit_of_and, bit_of_and, below_bit i h, other_bit i h) (turned (bit i mask) (not (eqb i current))))

-- The four tests of the rule, those of the walk's way first.
regroup : (other active allowed lower : Bool) → (other && (active && allowed)) && lower ≡ (other && allowed) && (active && lower)
regroup false active allowed lower = refl
regroup true false allowed lower = sym (and-false allowed)
regroup true true allowed lower = refl

module _ (current : ℕ) (target : ℤ) (mask : ℕ) (cpus : List CpuRecord) (num : ℕ) where
  -- The answer: every CPU that gets the interrupt.
  abbrev pub all : ℕ
  all = bits_of (eligible current target mask cpus) num

  all_bit : (i : ℕ) → bit i all ≡ ltb i num && (can_match current mask i && runs_less target cpus i)
  unfolding gets
  all_bit i =
      bit_bits_of (eligible current target mask cpus) num i
      ∙ ap (λ (b : Bool). ltb i num && b) (regroup (not (eqb i current)) (get_or cpus i no_cpu).active (bit i mask) _)

  -- Between two turns: what is ahead can match, and of all else the answer's bits are found. Both are words.
  pub record Walked (ahead found : ℕ) : Type 0 where
    pub ahead_fits : ahead < 2 ^ 32
    pub found_fits : found < 2 ^ 32
    pub can : (i : ℕ) → bit i ahead ≡ true → (i < num) × (can_match current mask i ≡ true)
    pub passed : (i : ℕ) → bit i found ≡ bit i all && not (bit i ahead)

  -- Before the first turn all that can match are ahead.
  pub walk_begins : num ≤ 32 → Walked (matching current mask num) 0
  walk_begins few =
      record {
        ahead_fits = lt_of_lt_of_le (bits_of_lt (can_match current mask) num) (pow_mono few);
        found_fits = pow_pos 32;
        can =
            λ i set.
            let both = sym (bit_bits_of (can_match current mask) num i) ∙ set in
            (ltb-true i num (and_left (ltb i num) _ both), and_right (ltb i num) _ both);
        passed =
            λ i.
            bit_above i 0 (pow_pos i)
            ∙ sym
            (ap₂ (λ (a b : Bool). a && not b) (all_bit i) (bit_bits_of (can_match current mask) num i)
            ∙ none (ltb i num) (can_match current mask i) (runs_less target cpus i));
      }
    where
      none : (a m r : Bool) → (a && (m && r)) && not (a && m) ≡ false
      none false m r = refl
      none true false r = refl
      none true true r = and-false r

  -- After the last one nothing is ahead, and the answer is found.
  pub walk_ends : {found : ℕ} → num ≤ 32 → Walked 0 found → found ≡ all
  walk_ends {found} few w =
      bit_ext 32 found all w.found_fits (lt_of_lt_of_le (bits_of_lt (eligible current target mask cpus) num) (pow_mono few))
      (λ i _. w.passed i ∙ rw (bit_above i 0 (pow_pos i)) (and-true (bit i all)))

-- A turn looks at the lowest CPU ahead.
module _ {current : ℕ} {target : ℤ} {mask : ℕ} {cpus : List CpuRecord} {num ahead found : ℕ} (some : 0 < ahead)
    (w : Walked current target mask cpus num ahead found) where
  abbrev here : ℕ
  here = count_trailing_zeros 32 ahead

  abbrev answered : ℕ → Bool
  answered i = bit i (all current target mask cpus num)

  here_ahead : (here < 32) × (bit here ahead ≡ true)
  here_ahead = lowest_set 32 ahead some w.ahead_fits

  pub here_can : (here < num) × (can_match current mask here ≡ true)
  here_can = w.can here here_ahead.1

  ahead_bit : (i : ℕ) → bit i (cleared ahead) ≡ bit i ahead && not (eqb i here)
  ahead_bit = cleared_bit 32 ahead some w.ahead_fits

  answered_here : answered here ≡ runs_less target cpus here
  answered_here = all_bit current target mask cpus num here ∙ rw (lt-ltb here num here_can.0, here_can.1)

  -- Its bit is put in if it runs something less important, and it is ahead no more.
  pub turn : Walked current target mask cpus num (cleared ahead) (bit_or found ((bool_byte (runs_less target cpus here) * 2 ^ here) % 2 ^ 32))
  turn =
      record {
        ahead_fits = lt_of_le_of_lt (and_le_l ahead (ahead - 1)) w.ahead_fits;
        found_fits = or_lt 32 found _ w.found_fits (mod-lt _ (pow_pos 32));
        can = λ i set. w.can i (and_left (bit i ahead) _ (sym (ahead_bit i) ∙ set));
        passed =
            λ i.
            bit_of_or i found _ ∙ ap₂ (λ (a b : Bool). a || b) (w.passed i) (shl_flag 32 here (runs_less target cpus here) i here_ahead.0)
            ∙ at i (same_or i here) ∙ sym (ap (λ (b : Bool). answered i && not b) (ahead_bit i));
      }
    where
      either_way : (r : Bool) → (r && false) || (r && true) ≡ r && true
      either_way true = refl
      either_way false = refl

      at : (i : ℕ) → (i ≡ here) ⊎ (i ≡ here → ⊥)
          → (answered i && not (bit i ahead)) || (runs_less target cpus here && eqb i here) ≡ answered i && not (bit i ahead && not (eqb i here))
      at i (inl same) =
          rw (eq-eqb i here same, ap (λ (x : ℕ). bit x ahead) same ∙ here_ahead.1, ap answered same ∙ answered_here)
          (either_way (runs_less target cpus here))
      at i (inr not-here) = rw (ne_eqb i here not-here, and-false, and-true) (or-false _)

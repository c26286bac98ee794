-- A rearrangement that is not the identity, and one that breaks a clash and changes an answer: the theorem's premise can be met, and is needed.
-- Assumes nothing.
use mathlib.Core.Path.{◌≡◌, refl, ap, sym, ◌∙◌}
use mathlib.Core.Logic.{◌≢◌}
use mathlib.Core.Bool.{Bool, true, false, ◌||◌, false≢true}
use mathlib.Core.List.{List, [], ◌∷◌, ◌++◌}
use Prim.Native.Nat.{ℕ, zero, suc, ◌<◌}
use native.Mathlib.Omega.{arith}
use lib.Dec.{eqb}
use lib.ListN.{get_or}
use borrow.Author.Tests.{eq-eqb}
use Rattle.error.specs.Codes.{OK, EINVAL}
use Rattle.error.specs.Answer.{answer}
use Rattle.machine.specs.State.{thread_mask, fresh_machine, fresh, setup}
use Rattle.machine.specs.declared.Machine.{Machine}
use Rattle.record.specs.Record.{fields_of, row_of, fits, request_of}
use Rattle.words.specs.Bit.{bit}
use Rattle.rules.specs.Rules.{up, put}
use Rattle.operations.specs.Cells.{Cell, run, hold, thread, lock}
use Rattle.operations.specs.Asked.{answered, next}
use Rattle.operations.specs.Log.{record_at, state_at, answer_at}
use Rattle.order.specs.Clash.{Footprint, In, here, there, Clash, writes_first, writes_second}
use Rattle.rearranged.specs.Clash.{footprint}
use Rattle.rearranged.specs.Rearranged.{Rearranged}
use Rattle.rearranged.specs.Exhibit.{two_cpus, one_by_one, interleaved, came, turned_round, turned, up_first, down_first, swapped}

-- A clash as a test.
same : Cell → Cell → Bool
same (run a) (run b) = eqb a b
same (run a) (hold b) = false
same (run a) (thread b) = false
same (run a) (lock b) = false
same (hold a) (run b) = false
same (hold a) (hold b) = eqb a b
same (hold a) (thread b) = false
same (hold a) (lock b) = false
same (thread a) (run b) = false
same (thread a) (hold b) = false
same (thread a) (thread b) = eqb a b
same (thread a) (lock b) = false
same (lock a) (run b) = false
same (lock a) (hold b) = false
same (lock a) (thread b) = false
same (lock a) (lock b) = eqb a b

same_self : (c : Cell) → same c c ≡ true
unfolding same
same_self (run a) = eq-eqb a a refl
same_self (hold a) = eq-eqb a a refl
same_self (thread a) = eq-eqb a a refl
same_self (lock a) = eq-eqb a a refl

among : Cell → List Cell → Bool
among c [] = false
among c (d ∷ ds) = same c d || among c ds

or_right : (a b : Bool) → b ≡ true → a || b ≡ true
or_right true b e = refl
or_right false b e = e

or_left : (a b : Bool) → a ≡ true → a || b ≡ true
or_left true b e = refl
or_left false b e = absurd (false≢true e)

in_among : (c : Cell) (ds : List Cell) → In c ds → among c ds ≡ true
unfolding among
in_among c [] i = elim i [ ]
in_among c (d ∷ ds) (here e) = or_left (same c d) (among c ds) (ap (same c) (sym e) ∙ same_self c)
in_among c (d ∷ ds) (there i) = or_right (same c d) (among c ds) (in_among c ds i)

meet : List Cell → List Cell → Bool
meet [] ds = false
meet (c ∷ cs) ds = among c ds || meet cs ds

in_meet : (c : Cell) (cs ds : List Cell) → In c cs → In c ds → meet cs ds ≡ true
unfolding meet
in_meet c [] ds i j = elim i [ ]
in_meet c (b ∷ cs) ds (here e) j = or_left (among b ds) (meet cs ds) (ap (λ x. among x ds) (sym e) ∙ in_among c ds j)
in_meet c (b ∷ cs) ds (there i) j = or_right (among b ds) (meet cs ds) (in_meet c cs ds i j)

clashing : Footprint Cell → Footprint Cell → Bool
clashing a b = meet a.writes (b.reads ++ b.writes) || meet (a.reads ++ a.writes) b.writes

clash_clashing : (a b : Footprint Cell) → Clash a b → clashing a b ≡ true
unfolding clashing
clash_clashing a b (writes_first c i j) = or_left (meet a.writes (b.reads ++ b.writes)) _ (in_meet c a.writes _ i j)
clash_clashing a b (writes_second c i j) = or_right (meet a.writes (b.reads ++ b.writes)) _ (in_meet c (a.reads ++ a.writes) _ i j)

-- Each of the four positions.
below_four : (P : ℕ → Type 0) → P 0 → P 1 → P 2 → P 3 → (k : ℕ) → k < 4 → P k
below_four P a b c d zero h = a
below_four P a b c d (suc zero) h = b
below_four P a b c d (suc (suc zero)) h = c
below_four P a b c d (suc (suc (suc zero))) h = d
below_four P a b c d (suc (suc (suc (suc k)))) h = absurd (omega arith)

-- On two CPUs with either pin-only setting.
module _ (pinOnly : Bool) where
  -- The row of a record of the interleaved log.
  abbrev row_at : ℕ → Footprint Cell
  row_at k = footprint (two_cpus pinOnly) (record_at interleaved k)

  -- Two of them do not clash, by the test.
  abbrev Free : ℕ → ℕ → Type 0
  Free j k = clashing (row_at j) (row_at k) ≡ false

  -- The records of two CPUs do not clash.
  free : Free 0 1 × (Free 0 3 × Free 2 3)
  unfolding same among meet clashing request_of fields_of row_of fits
  free = (refl, (refl, refl))

  barred : (j k : ℕ) {A : Type 0} → Free j k → Clash (row_at j) (row_at k) → A
  barred j k e c = absurd (false≢true (sym e ∙ clash_clashing _ _ c))

  -- Two that clash keep their order.
  abbrev Kept : ℕ → ℕ → Type 0
  Kept j k = j < k → Clash (row_at j) (row_at k) → came j < came k

  -- The interleaved log is the other one rearranged, and is not the same log.
  pub two_ways : Rearranged (two_cpus pinOnly) 4 one_by_one interleaved came
  two_ways =
      record {
        permutes = record {
          below = below_four (λ k. came k < 4) (omega arith) (omega arith) (omega arith) (omega arith);
          once = λ j k g h. below_four (λ j. came j ≡ came k → j ≡ k)
              (below_four (λ k. 2 ≡ came k → 0 ≡ k) (λ e. refl) (λ e. absurd (omega arith)) (λ e. absurd (omega arith)) (λ e. absurd (omega arith)) k h)
              (below_four (λ k. 0 ≡ came k → 1 ≡ k) (λ e. absurd (omega arith)) (λ e. refl) (λ e. absurd (omega arith)) (λ e. absurd (omega arith)) k h)
              (below_four (λ k. 3 ≡ came k → 2 ≡ k) (λ e. absurd (omega arith)) (λ e. absurd (omega arith)) (λ e. refl) (λ e. absurd (omega arith)) k h)
              (below_four (λ k. 1 ≡ came k → 3 ≡ k) (λ e. absurd (omega arith)) (λ e. absurd (omega arith)) (λ e. absurd (omega arith)) (λ e. refl) k h) j g;
        };
        moved = below_four (λ k. record_at interleaved k ≡ record_at one_by_one (came k)) refl refl refl refl;
        kept = λ j k b h. below_four (λ k. j < k → k < 4 → Kept j k)
            (λ l _ _. absurd (omega arith))
            (λ l _. below_four (λ j. Kept j 1)
            (λ _. barred 0 1 free.0) (λ b. absurd (omega arith)) (λ b. absurd (omega arith)) (λ b. absurd (omega arith)) j (omega arith))
            (λ l _. below_four (λ j. Kept j 2)
            (λ _ _. omega arith) (λ _ _. omega arith) (λ b. absurd (omega arith)) (λ b. absurd (omega arith)) j (omega arith))
            (λ l _. below_four (λ j. Kept j 3)
            (λ _. barred 0 3 free.1.0) (λ _ _. omega arith) (λ _. barred 2 3 free.1.1) (λ b. absurd (omega arith)) j (omega arith))
            k h b h b;
      }

-- Two records, in either order.
below_two : (P : ℕ → Type 0) → P 0 → P 1 → (k : ℕ) → k < 2 → P k
below_two P a b zero h = a
below_two P a b (suc zero) h = b
below_two P a b (suc (suc k)) h = absurd (omega arith)

module _ (pinOnly : Bool) where
  abbrev pair_at : ℕ → Footprint Cell
  pair_at k = footprint (two_cpus pinOnly) (record_at down_first k)

  apart : clashing (pair_at 0) (pair_at 1) ≡ false
  unfolding same among meet clashing request_of fields_of row_of fits
  apart = refl

  pub either_order : Rearranged (two_cpus pinOnly) 2 up_first down_first swapped
  either_order =
      record {
        permutes = record {
          below = below_two (λ k. swapped k < 2) (omega arith) (omega arith);
          once = λ j k g h. below_two (λ j. swapped j ≡ swapped k → j ≡ k)
              (below_two (λ k. 1 ≡ swapped k → 0 ≡ k) (λ e. refl) (λ e. absurd (omega arith)) k h)
              (below_two (λ k. 0 ≡ swapped k → 1 ≡ k) (λ e. absurd (omega arith)) (λ e. refl) k h) j g;
        };
        moved = below_two (λ k. record_at down_first k ≡ record_at up_first (swapped k)) refl refl;
        kept = λ j k b h. below_two (λ k. j < k → k < 2 → Clash (pair_at j) (pair_at k) → swapped j < swapped k)
            (λ l _ _. absurd (omega arith))
            (λ l _. below_two (λ j. j < 1 → Clash (pair_at j) (pair_at 1) → swapped j < swapped 1)
            (λ _ c. absurd (false≢true (sym apart ∙ clash_clashing _ _ c))) (λ b _. absurd (omega arith)) j (omega arith) l)
            k h b h;
      }

pub not_the_same : interleaved ≢ one_by_one
not_the_same e = let z : ◌≡◌ {A = ℕ} 1 0 = ap (λ l. get_or l 0 0) e in omega arith

-- The machine of setup byte 20.
abbrev start : Machine
start = (setup 0x20).value

-- Turned round, CPU 0's two records clash.
pub turned_clash : (pinOnly : Bool) → Clash (footprint (two_cpus pinOnly) (record_at turned_round 0)) (footprint (two_cpus pinOnly) (record_at turned_round 1))
unfolding request_of fields_of row_of fits
turned_clash pinOnly = writes_first (run 0) (here refl) (here refl)

-- Each record is where it should be, and yet the put has another answer: the premise is needed.
pub turned_moved : (k : ℕ) → k < 4 → record_at turned_round k ≡ record_at one_by_one (turned k)
turned_moved = below_four (λ k. record_at turned_round k ≡ record_at one_by_one (turned k)) refl refl refl refl

pub turned_changes : (answer_at start turned_round 0 ≡ answer EINVAL 0) × (answer_at start one_by_one (turned 0) ≡ answer OK 0)
unfolding request_of fields_of row_of fits thread_mask fresh_machine fresh setup answered next state_at up put bit
turned_changes = (refl, refl)

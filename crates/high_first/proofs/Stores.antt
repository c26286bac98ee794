-- A number's bytes, stored from the last to the first, and room that is too short for them: over the number of bytes. Assumes nothing.
use mathlib.Core.Path.{◌≡◌, refl, sym, ap, ◌∙◌}
use mathlib.Core.Bool.{true, false}
use mathlib.Core.List.{List, [], ◌∷◌}
use Prim.Native.Nat.{ℕ, suc, ◌+◌, ◌-◌, ◌*◌, ◌/◌, ◌%◌, ◌^◌, ◌≤◌, ◌<◌}
use native.Mathlib.Nat.{add-zero, sub-zero, sub_self}
use native.Mathlib.Omega.{arith}
use lib.ListN.{length, set}
use lib.Pow.{shr-shr}
use lib.Seq.{set_comm, sets, sets-eq}
use borrow.Author.Tests.{lt-leb, le-leb}
use Rattle.words.specs.HighFirst.{high_first}
use Rattle.words.proofs.HighFirst.{length_high_first}
use Rattle.high_first.specs.Place.{has_room, placed}

-- A store at a place before later ones may as well come first.
set_sets : (l : List ℕ) (i j a : ℕ) (vs : List ℕ) → i < j → set (sets l j vs) i a ≡ sets (set l i a) j vs
set_sets l i j a [] h = refl
set_sets l i j a (v ∷ vs) h =
    set_sets (set l j v) i (suc j) a vs (omega arith) ∙ ap (λ (m : List ℕ). sets m (suc j) vs) (set_comm l j i v a (λ e. omega arith))

-- One byte more, in front of those that are stored.
one_more : (room : List ℕ) (i k number : ℕ)
    → set (sets room (suc i) (high_first k number)) i (number / 2 ^ (8 * k) % 256) ≡ sets room i (high_first (suc k) number)
one_more room i k number = set_sets room i (suc i) (number / 2 ^ (8 * k) % 256) (high_first k number) (omega arith)

module _ (room : List ℕ) (at count number : ℕ) where
  -- The room when all but `left` of the bytes are stored.
  abbrev pub stored : ℕ → List ℕ
  stored left = sets room (at + left) (high_first (count - left) number)

  -- What is left of the number then.
  abbrev pub unstored : ℕ → ℕ
  unstored left = number / 2 ^ (8 * (count - left))

  pub none_stored : (number ≡ unstored count) × (room ≡ stored count)
  none_stored = rw (sub_self count) (omega arith, refl)

  pub next_stored : (left : ℕ) → 0 < left → left ≤ count
      → (unstored left / 256 ≡ unstored (left - 1)) × (set (stored left) (at + (left - 1)) (unstored left % 256) ≡ stored (left - 1))
  next_stored left some few =
      let one : count - (left - 1) ≡ suc (count - left) = omega arith in
      let next : at + left ≡ suc (at + (left - 1)) = omega arith in
      let wide : 8 * (count - left) + 8 ≡ 8 * suc (count - left) = omega arith in (
        rw (one, ← wide) (shr-shr number (8 * (count - left)) 8),
        rw (one, next) (one_more room (at + (left - 1)) (count - left) number),
      )

  pub all_stored : at + count ≤ length room → (true ≡ has_room at count (length room)) × (stored 0 ≡ placed at (high_first count number) room)
  unfolding placed
  all_stored fits = (
    sym (le-leb (at + count) (length room) fits),
    rw (add-zero at, sub-zero count)
        (sets-eq (high_first count number) room at (rw length_high_first fits) ∙ rw (length_high_first, le-leb (at + count) (length room) fits)),
  )

  -- Room that is too short stays.
  pub no_room : length room < at + count → (false ≡ has_room at count (length room)) × (room ≡ placed at (high_first count number) room)
  unfolding placed
  no_room short = (sym (lt-leb (at + count) (length room) short), rw (length_high_first, lt-leb (at + count) (length room) short))

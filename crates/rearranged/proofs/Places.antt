-- Each answer of a run stands in its record's place: eight bytes of the room. Assumes nothing.
use mathlib.Core.Path.{◌≡◌, ap, sym, ◌∙◌}
use mathlib.Core.List.{List, ◌++◌}
use Prim.Native.Nat.{ℕ, zero, suc, ◌+◌, ◌*◌, ◌≤◌, ◌<◌}
use native.Mathlib.Omega.{arith}
use native.Mathlib.Decide.{ℕ_discrete}
use lib.ListN.{length, take, drop, length-drop}
use lib.Seq.{take-append-le, drop-append-le, drop_at, take-length}
use Rattle.machine.specs.declared.Machine.{Machine}
use Rattle.answers.specs.Answer.{answer_bytes}
use Rattle.operations.specs.Log.{answer_at}
use Rattle.runner.specs.Run.{room_at, answers_of}
use Rattle.runner.proofs.Answers.{eight, answers_length, room_is}
use Rattle.rearranged.specs.Rearranged.{place}

-- A place is in the front of a list.
place_front : (k : ℕ) (xs ys : List ℕ) → k * 8 + 8 ≤ length xs → place (xs ++ ys) k ≡ place xs k
place_front k xs ys h =
    ap (take 8) (drop-append-le (k * 8) xs ys (omega arith)) ∙ take-append-le 8 (drop (k * 8) xs) ys (omega (arith, length-drop (k * 8) xs))

module _ (m : Machine) (log : List ℕ) where
  abbrev bytes_at : ℕ → List ℕ
  bytes_at k = answer_bytes (answer_at m log k).code (answer_at m log k).value

  -- The last answer stands behind those before it, and each of those where it stood.
  answers_at : (count k : ℕ) → k < count → place (answers_of m log count) k ≡ bytes_at k
  unfolding answers_of
  answers_at zero k b = absurd (omega arith)
  answers_at (suc n) k b = go (ℕ_discrete k n) (answers_at n k)
    where
      go : Dec (k ≡ n) → (k < n → place (answers_of m log n) k ≡ bytes_at k) → place (answers_of m log n ++ bytes_at n) k ≡ bytes_at k
      go (yes e) before =
          rw e
          (ap (take 8) (drop_at (answers_of m log n) (bytes_at n) (n * 8) (answers_length m log n))
          ∙ ap (λ size. take size (bytes_at n)) (sym (eight (answer_at m log n)))
          ∙ take-length (bytes_at n))
      go (no other) before =
          place_front k (answers_of m log n) (bytes_at n) (omega (arith, other, answers_length m log n)) ∙ before (omega (arith, other))

  pub answer_in_place : (room : List ℕ) (count : ℕ) → count * 8 ≤ length room → (k : ℕ) → k < count
      → place (room_at m log room count) k ≡ answer_bytes (answer_at m log k).code (answer_at m log k).value
  answer_in_place room count fits k b =
      ap (λ r. place r k) (room_is m log room count fits)
      ∙ place_front k (answers_of m log count) (drop (count * 8) room) (omega (arith, answers_length m log count))
      ∙ answers_at count k b

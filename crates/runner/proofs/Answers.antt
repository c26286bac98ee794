-- What a run writes is one list: its answers, eight bytes each, over the front of the room. So the answers of a log in two pieces are those of
-- the first and then those of the second. Assumes nothing.
use mathlib.Core.Path.{◌≡◌, refl, ap, ap₂, sym, ◌∙◌}
use mathlib.Core.List.{List, ◌++◌, append-nil, append_assoc}
use Prim.Native.Nat.{ℕ, zero, suc, ◌+◌, ◌*◌, ◌≤◌}
use native.Mathlib.Nat.{add-suc, add-zero}
use native.Mathlib.Omega.{arith}
use lib.ListN.{length, take, drop, length-append, length-drop}
use lib.Seq.{take_at, drop_at, drop-drop}
use borrow.Author.Tests.{le-ltb}
use Rattle.error.specs.Answer.{Answer}
use Rattle.machine.specs.declared.Machine.{Machine}
use Rattle.answers.specs.Answer.{answer_bytes, written}
use Rattle.operations.specs.Log.{state_at, answer_at}
use Rattle.operations.proofs.Pieces.{answer_front, whole_of, answer_pieces}
use Rattle.runner.specs.Run.{written_at, room_at, answers_of}

abbrev bytes_of : Answer ℕ → List ℕ
bytes_of a = answer_bytes a.code a.value

pub eight : (a : Answer ℕ) → length (answer_bytes a.code a.value) ≡ 8
unfolding answer_bytes
eight a = refl

pub answers_length : (m : Machine) (log : List ℕ) (k : ℕ) → length (answers_of m log k) ≡ k * 8
unfolding answers_of
answers_length m log zero = refl
answers_length m log (suc k) =
    length-append (answers_of m log k) (bytes_of (answer_at m log k))
    ∙ omega (arith, answers_length m log k, eight (answer_at m log k))

-- An answer, written where there is room for it.
written_over : (a : Answer ℕ) (room : List ℕ) → 8 ≤ length room → written (bytes_of a) room ≡ bytes_of a ++ drop 8 room
unfolding written
written_over a room fits = rw (eight a, le-ltb (length room) 8 fits)

-- The room after k records.
pub room_is : (m : Machine) (log room : List ℕ) (k : ℕ) → k * 8 ≤ length room
    → room_at m log room k ≡ answers_of m log k ++ drop (k * 8) room
unfolding room_at answers_of
room_is m log room zero fits = refl
room_is m log room (suc k) fits =
    let front = answers_of m log k in
    let rest = drop (k * 8) room in
    let a = answer_at m log k in
    let size : length front ≡ k * 8 = answers_length m log k in
    let on : k * 8 + 8 ≡ suc k * 8 = omega arith in
    ap (written_at (k * 8) a) (room_is m log room k (omega arith))
    ∙ ap₂ (λ x y. x ++ written (bytes_of a) y) (take_at front rest (k * 8) size) (drop_at front rest (k * 8) size)
    ∙ ap (λ x. front ++ x) (written_over a rest (omega (arith, length-drop (k * 8) room)))
    ∙ ap (λ x. front ++ (bytes_of a ++ x)) (drop-drop 8 (k * 8) room ∙ ap (λ n. drop n room) on)
    ∙ sym (append_assoc front (bytes_of a) (drop (suc k * 8) room))

-- The first k answers are those of any log that goes on behind its first k records.
pub answers_front : (m : Machine) (xs ys : List ℕ) (k : ℕ) → k * 12 ≤ length xs → answers_of m (xs ++ ys) k ≡ answers_of m xs k
unfolding answers_of
answers_front m xs ys zero long = refl
answers_front m xs ys (suc k) long =
    ap₂ (λ x a. x ++ bytes_of a) (answers_front m xs ys k (omega arith)) (answer_front m xs ys k (omega arith))

pub answers_alone : (m : Machine) (log : List ℕ) (k : ℕ) → k * 12 ≤ length log → answers_of m log k ≡ answers_of m (take (k * 12) log) k
answers_alone m log k long = whole_of (λ l. answers_of m l k) log k long (λ xs ys. answers_front m xs ys k)

-- The room after them likewise, and so the first k records may as well be the whole log.
room_front : (m : Machine) (room : List ℕ) (k : ℕ) (xs ys : List ℕ) → k * 12 ≤ length xs → room_at m (xs ++ ys) room k ≡ room_at m xs room k
unfolding room_at
room_front m room zero xs ys long = refl
room_front m room (suc k) xs ys long =
    ap₂ (λ a r. written_at (k * 8) a r) (answer_front m xs ys k (omega arith)) (room_front m room k xs ys (omega arith))

pub room_alone : (m : Machine) (log room : List ℕ) (k : ℕ) → k * 12 ≤ length log → room_at m log room k ≡ room_at m (take (k * 12) log) room k
room_alone m log room k long = whole_of (λ l. room_at m l room k) log k long (room_front m room k)

-- Behind a whole records.
module _ (m : Machine) (xs ys : List ℕ) (a : ℕ) (whole : length xs ≡ a * 12) where
  pub answers_pieces : (k : ℕ) → answers_of m (xs ++ ys) (a + k) ≡ answers_of m xs a ++ answers_of (state_at m xs a) ys k
  unfolding answers_of
  answers_pieces zero =
      ap (answers_of m (xs ++ ys)) (add-zero a) ∙ answers_front m xs ys a (omega (arith, whole)) ∙ sym (append-nil (answers_of m xs a))
  answers_pieces (suc k) =
      ap (answers_of m (xs ++ ys)) (add-suc a k)
      ∙ ap₂ (λ x b. x ++ bytes_of b) (answers_pieces k) (answer_pieces m xs ys a whole k)
      ∙ append_assoc (answers_of m xs a) (answers_of (state_at m xs a) ys k) (bytes_of (answer_at (state_at m xs a) ys k))

  -- The second piece, run in the room behind the first one's answers.
  pub room_pieces : (room : List ℕ) (k : ℕ) → (a + k) * 8 ≤ length room
      → take (a * 8) (room_at m xs room a) ++ room_at (state_at m xs a) ys (drop (a * 8) (room_at m xs room a)) k
      ≡ room_at m (xs ++ ys) room (a + k)
  room_pieces room k fits =
      let front = answers_of m xs a in
      let rest = drop (a * 8) room in
      let back = answers_of (state_at m xs a) ys k in
      let size : length front ≡ a * 8 = answers_length m xs a in
      let on : a * 8 + k * 8 ≡ (a + k) * 8 = omega arith in
      ap (λ r. take (a * 8) r ++ room_at (state_at m xs a) ys (drop (a * 8) r) k) (room_is m xs room a (omega arith))
      ∙ ap₂ (λ x y. x ++ room_at (state_at m xs a) ys y k) (take_at front rest (a * 8) size) (drop_at front rest (a * 8) size)
      ∙ ap (λ x. front ++ x) (room_is (state_at m xs a) ys rest k (omega (arith, length-drop (a * 8) room)))
      ∙ ap (λ x. front ++ (back ++ x)) (drop-drop (k * 8) (a * 8) room ∙ ap (λ n. drop n room) on)
      ∙ sym (append_assoc front back (drop ((a + k) * 8) room))
      ∙ ap (λ x. x ++ drop ((a + k) * 8) room) (sym (answers_pieces k))
      ∙ sym (room_is m (xs ++ ys) room (a + k) fits)

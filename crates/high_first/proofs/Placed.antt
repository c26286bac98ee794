-- Bytes that were placed in room: at its front, behind others, and where they find none. Assumes nothing.
use mathlib.Core.Path.{◌≡◌, ap}
use mathlib.Core.List.{List, ◌++◌, append_assoc}
use Prim.Native.Nat.{ℕ, ◌+◌, ◌≤◌, ◌<◌}
use native.Mathlib.Nat.{zero-add}
use native.Mathlib.Omega.{arith}
use lib.ListN.{length, take, drop, length-append}
use lib.Seq.{length-take-le, drop_at, sets-eq, length-sets}
use borrow.Author.Tests.{lt-leb, le-leb}
use Rattle.high_first.specs.Place.{placed}

module _ (bs room : List ℕ) where
  pub stays : (at : ℕ) → length room < at + length bs → placed at bs room ≡ room
  unfolding placed
  stays at short = rw (lt-leb (at + length bs) (length room) short)

  pub length_placed : (at : ℕ) → at + length bs ≤ length room → length (placed at bs room) ≡ length room
  unfolding placed
  length_placed at fits = rw (le-leb (at + length bs) (length room) fits, ← sets-eq bs room at fits) (length-sets room at bs)

  pub in_front : length bs ≤ length room → placed 0 bs room ≡ bs ++ drop (length bs) room
  unfolding placed
  in_front fits = rw (zero-add (length bs), le-leb (length bs) (length room) fits)

-- Bytes behind the place of others, and then those, are the two after one another over the front.
module _ (xs bs room : List ℕ) (fits : length xs + length bs ≤ length room) where
  pub front_and_behind : xs ++ drop (length xs) (placed (length xs) bs room) ≡ (xs ++ bs) ++ drop (length (xs ++ bs)) room
  unfolding placed
  front_and_behind =
      rw (le-leb (length xs + length bs) (length room) fits, append_assoc (take (length xs) room), append_assoc xs bs, length-append)
      (ap (λ (l : List ℕ). xs ++ l) (drop_at (take (length xs) room) _ (length xs) (length-take-le (length xs) room (omega arith))))

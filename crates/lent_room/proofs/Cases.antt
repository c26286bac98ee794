-- The ways in which an answer meets its room, over plain variables: refused, no room, done, and bytes in front of others. Assumes nothing.
use mathlib.Core.Path.{◌≡◌, refl, sym, ◌∙◌}
use mathlib.Core.Bool.{true, false}
use mathlib.Core.List.{List, ◌++◌}
use Prim.Native.Nat.{ℕ, ◌+◌, ◌≤◌}
use native.Mathlib.Nat.{zero-add}
use native.Mathlib.Omega.{arith}
use lib.IntN.{ℤ}
use lib.ListN.{length, length-append}
use borrow.Author.Tests.{lt-ltb, le-ltb, leb-true, leb-false}
use Rattle.std.specs.Prelude.{Option, None, Some, unwrap_or}
use Rattle.error.specs.Codes.{OK, ENOMEM, is_ok, refusal_number}
use Rattle.error.specs.Answer.{Answer, answer}
use Rattle.error.specs.declared.Refusal.{Refusal}
use Rattle.error.specs.declared.Refusal.TheVariants.{Eperm, Enomem, Ebusy, Einval, Edeadlk, Ealready, Eoverflow}
use Rattle.high_first.specs.Place.{has_room, placed}
use Rattle.high_first.proofs.Placed.{stays, length_placed, in_front, front_and_behind}
use Rattle.spinlock_validate.specs.declared.Held.{Held}
use Rattle.lent_room.specs.Room.{holder_bytes, held_bytes, call_code, call_room}

-- What a contract says of a code and the room after the call.
abbrev pub Gives : Answer (List ℕ) → List ℕ → ℤ → List ℕ → Type 0
Gives a room code after = (code ≡ call_code a (length room)) × (after ≡ call_room a room)

no_refusal_is_ok : (why : Refusal) → is_ok (refusal_number why) ≡ false
no_refusal_is_ok Eperm = refl
no_refusal_is_ok Enomem = refl
no_refusal_is_ok Ebusy = refl
no_refusal_is_ok Einval = refl
no_refusal_is_ok Edeadlk = refl
no_refusal_is_ok Ealready = refl
no_refusal_is_ok Eoverflow = refl

pub refused : (why : Refusal) (bs room : List ℕ) → Gives (answer (refusal_number why) bs) room (refusal_number why) room
unfolding call_code call_room
refused why bs room = let bad = no_refusal_is_ok why in (simp bad, simp bad)

module _ (bs room : List ℕ) where
  -- Bytes that find no room leave it.
  pub no_room : has_room 0 (length bs) (length room) ≡ false → Gives (answer OK bs) room ENOMEM (placed 0 bs room)
  unfolding call_code call_room
  no_room lacks =
      let short = leb-false (0 + length bs) (length room) lacks in
      let less = lt-ltb (length room) (length bs) (rw zero-add at short) in
      (simp less, stays bs room 0 short ∙ simp less)

  -- Bytes that find room are the answer over the front.
  pub done : has_room 0 (length bs) (length room) ≡ true → Gives (answer OK bs) room OK (placed 0 bs room)
  unfolding call_code call_room
  done has =
      let fits : length bs ≤ length room = rw zero-add at (leb-true (0 + length bs) (length room) has) in
      let enough = le-ltb (length room) (length bs) fits in
      (simp enough, in_front bs room fits ∙ simp enough)

module _ (xs bs room : List ℕ) where
  -- Where the bytes behind others find no room, all of them find none.
  pub none_behind : has_room (length xs) (length bs) (length room) ≡ false → placed (length xs) bs room ≡ placed 0 (xs ++ bs) room
  none_behind lacks =
      let short = leb-false (length xs + length bs) (length room) lacks in
      stays bs room (length xs) short ∙ sym (stays (xs ++ bs) room 0 (rw (zero-add (length (xs ++ bs)), length-append) short))

  -- Where they find room, the others do so too, and stand in front of them.
  pub both : has_room (length xs) (length bs) (length room) ≡ true → placed 0 xs (placed (length xs) bs room) ≡ placed 0 (xs ++ bs) room
  both has =
      let fits = leb-true (length xs + length bs) (length room) has in
      in_front xs (placed (length xs) bs room) (omega (arith, length_placed bs room (length xs) fits))
      ∙ front_and_behind xs bs room fits ∙ sym (in_front (xs ++ bs) room (rw length-append fits))

-- Nobody's bytes are those of thread 0 on CPU 0.
pub holder_of : (nobody : Held) → nobody.thread ≡ 0 → nobody.cpu ≡ 0
    → (held : Option Held) → holder_bytes (unwrap_or held nobody).thread (unwrap_or held nobody).cpu ≡ held_bytes held
holder_of nobody t c None = rw (t, c) refl
holder_of nobody t c (Some held) = refl

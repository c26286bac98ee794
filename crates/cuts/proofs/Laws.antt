-- Each fragment that is taken runs the records that it completes as the whole log would, and leaves pending what the rest of the log begins with;
-- a refused one leaves the form. So it goes on to the end of the log (`ends`). Assumes nothing.
use mathlib.Core.Path.{◌≡◌, refl, ap, ap₂, sym, ◌∙◌}
use mathlib.Core.Bool.{Bool, true, false, cond}
use mathlib.Core.List.{List, [], ◌∷◌, ◌++◌, append-nil, append_assoc}
use Prim.Native.Nat.{ℕ, ◌+◌, ◌*◌, ◌/◌, ◌%◌, ◌≤◌}
use native.Mathlib.Omega.{arith}
use lib.ListN.{length, take, drop, replicate, length-append, length-drop, take-append-drop}
use lib.Seq.{length-take-le, take-take, take-append-le, take-length, take_at, drop-drop, drop-append_seam}
use Rattle.error.specs.Codes.{is_ok}
use Rattle.wellformed.specs.WellFormed.{well_formed}
use Rattle.operations.specs.Log.{state_at}
use Rattle.operations.proofs.Pieces.{state_alone, state_pieces}
use Rattle.log_tests.proofs.FeedCodes.{room_enough}
use Rattle.runner.specs.Run.{room_at, answers_of}
use Rattle.runner.proofs.Answers.{answers_length, room_is, answers_alone, answers_pieces}
use Rattle.feed.specs.declared.Form.{Form}
use Rattle.feed.specs.Feed.{arrived, completed, padded, taken, fed, fed_room}
use Rattle.feed.proofs.Bytes.{padded_length}
use Rattle.cuts.specs.Cuts.{Fragment, fed_one, form_after, answers_after, log_taken, EndsAs}

-- A feed at its code.
module _ (f : Form) (x : Fragment) where
  abbrev bytes : List ℕ
  bytes = x.bytes

  module _ (ok : is_ok (fed_one f x).code ≡ true) where
    is_taken : (fed_one f x).value ≡ (taken f bytes, completed f bytes)
    unfolding fed
    is_taken = rw ok

    taken_room : fed_room f bytes x.room ≡ room_at f.machine (arrived f bytes) x.room (completed f bytes)
    unfolding fed fed_room
    taken_room = rw ok

    fits : completed f bytes * 8 ≤ length x.room
    unfolding fed
    fits = room_enough (well_formed f.machine) f.count (length bytes) (length x.room) ok

    taken_answers : take ((fed_one f x).value.1 * 8) (fed_room f bytes x.room) ≡ answers_of f.machine (arrived f bytes) (completed f bytes)
    taken_answers =
        let n = completed f bytes in
        ap₂ (λ k r. take (k * 8) r) (ap (λ v. v.1) is_taken)
        (taken_room ∙ room_is f.machine (arrived f bytes) x.room n fits)
        ∙ take_at (answers_of f.machine (arrived f bytes) n) _ (n * 8) (answers_length f.machine (arrived f bytes) n)

  not_taken : is_ok (fed_one f x).code ≡ false → (fed_one f x).value ≡ (f, 0)
  unfolding fed
  not_taken bad = rw bad

-- A form's bytes are those of its type: at most eleven pending, in eleven places.
pub record Holds (f : Form) : Type 0 where
  pub few : f.count ≤ 11
  pub eleven : length f.pending ≡ 11

-- One fragment that is taken, and the rest of the log behind it.
module _ (f : Form) (h : Holds f) (x rest : List ℕ) where
  abbrev many : ℕ
  many = completed f x

  abbrev front : List ℕ
  front = take (many * 12) (arrived f x)

  abbrev left : List ℕ
  left = drop (many * 12) (arrived f x)

  arrived_length : length (arrived f x) ≡ f.count + length x
  arrived_length =
      length-append (take f.count f.pending) x
      ∙ omega (arith, length-take-le f.count f.pending (omega (arith, h.few, h.eleven)))

  long : many * 12 ≤ length (arrived f x)
  long = omega (arith, arrived_length)

  left_length : length left ≡ (f.count + length x) % 12
  left_length = length-drop (many * 12) (arrived f x) ∙ omega (arith, arrived_length)

  -- What is pending after it.
  pending_after : take (taken f x).count (taken f x).pending ≡ left
  unfolding taken
  pending_after =
      ap (λ n. take n (padded 11 left)) (sym left_length)
      ∙ take-take (length left) 11 (left ++ replicate 11 0) (omega (arith, left_length))
      ∙ take-append-le (length left) left (replicate 11 0) (omega arith) ∙ take-length left

  pub holds_on : Holds (taken f x)
  unfolding taken
  holds_on = record { few = omega arith; eleven = padded_length 11 left }

  -- The whole log is the records that were run, and then what the next form has pending with the rest behind it.
  abbrev later : List ℕ
  later = arrived (taken f x) rest

  in_two : arrived f (x ++ rest) ≡ front ++ arrived (taken f x) rest
  in_two =
      sym (append_assoc (take f.count f.pending) x rest)
      ∙ ap (λ l. l ++ rest) (sym (take-append-drop (many * 12) (arrived f x)))
      ∙ append_assoc front left rest
      ∙ ap (λ l. front ++ (l ++ rest)) (sym pending_after)

  front_length : length front ≡ many * 12
  front_length = length-take-le (many * 12) (arrived f x) long

  size : length (arrived f (x ++ rest)) ≡ many * 12 + length later
  size = ap length in_two ∙ length-append front later ∙ ap (λ n. n + length later) front_length

  records : length (arrived f (x ++ rest)) / 12 ≡ many + length later / 12
  records = omega (arith, size)

  go_on : {end : Form} {answers : List ℕ} → EndsAs (taken f x).machine later end answers
      → EndsAs f.machine (arrived f (x ++ rest)) end (answers_of f.machine (arrived f x) many ++ answers)
  unfolding taken
  go_on {answers = answers} e =
      let m = f.machine in
      let k = length later / 12 in
      let middle : state_at m (arrived f x) many ≡ state_at m front many = state_alone m (arrived f x) many long in
      let at : length (arrived f (x ++ rest)) / 12 * 12 ≡ many * 12 + k * 12 = omega (arith, records) in
      record {
        machine =
            e.machine ∙ ap (λ y. state_at y later k) middle ∙ sym (state_pieces m front later many front_length k)
            ∙ sym (ap₂ (λ l n. state_at m l n) in_two records);
        answered =
            ap₂ (λ a b. a ++ b) (answers_alone m (arrived f x) many long) (e.answered ∙ ap (λ y. answers_of y later k) middle)
            ∙ sym (answers_pieces m front later many front_length k) ∙ sym (ap₂ (λ l n. answers_of m l n) in_two records);
        pending =
            e.pending ∙ ap (drop (k * 12)) (sym (drop-append_seam front later) ∙ ap (λ n. drop n (front ++ later)) front_length)
            ∙ drop-drop (k * 12) (many * 12) (front ++ later)
            ∙ sym (ap₂ drop at in_two);
        count = e.count ∙ omega (arith, size);
      }

-- No fragment is left.
nothing : (f : Form) → Holds f → EndsAs f.machine (arrived f []) f []
unfolding state_at answers_of
nothing f h =
    let front = take f.count f.pending in
    let size : length (arrived f []) ≡ f.count =
    ap length (append-nil front) ∙ length-take-le f.count f.pending (omega (arith, h.few, h.eleven)) in
    let none : length (arrived f []) / 12 ≡ 0 = omega (arith, size, h.few) in
    record {
      machine = sym (ap (state_at f.machine (arrived f [])) none);
      answered = sym (ap (answers_of f.machine (arrived f [])) none);
      pending = sym (append-nil front) ∙ sym (ap (λ n. drop (n * 12) (arrived f [])) none);
      count = omega (arith, size, h.few);
    }

-- Any fragments, from any form.
pub ends : (f : Form) → Holds f → (xs : List Fragment)
    → EndsAs f.machine (arrived f (log_taken f xs)) (form_after f xs) (answers_after f xs)
unfolding form_after answers_after log_taken
ends f h [] = nothing f h
ends f h (x ∷ xs) = go (is_ok (fed_one f x).code) refl (λ g k. ends g k xs)
  where
    go : (t : Bool) → is_ok (fed_one f x).code ≡ t
        → ((g : Form) → Holds g → EndsAs g.machine (arrived g (log_taken g xs)) (form_after g xs) (answers_after g xs))
        → EndsAs f.machine
        (arrived f (cond (is_ok (fed_one f x).code) x.bytes [] ++ log_taken (fed_one f x).value.0 xs))
        (form_after (fed_one f x).value.0 xs)
        (take ((fed_one f x).value.1 * 8) (fed_room f x.bytes x.room) ++ answers_after (fed_one f x).value.0 xs)
    go true ok rest =
        let same : (fed_one f x).value.0 ≡ taken f x.bytes = ap (λ v. v.0) (is_taken f x ok) in
        rw (ok, taken_answers f x ok, same)
        (go_on f h x.bytes (log_taken (taken f x.bytes) xs) (rest (taken f x.bytes) (holds_on f h x.bytes [])))
    go false bad rest = rw (bad, not_taken f x bad) (rest f h)

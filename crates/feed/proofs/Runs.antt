-- What a fragment does to the form's machine and to the room, over plain variables: it runs no record, or the first record and those behind it, which
-- are together the whole records of what has arrived. Assumes nothing.
use mathlib.Core.Path.{◌≡◌, refl, ap, ap₂, sym, ◌∙◌}
use mathlib.Core.Bool.{Bool, true, false, ◌&&◌, cond}
use mathlib.Core.List.{List, ◌++◌}
use Prim.Native.Nat.{ℕ, ◌+◌, ◌-◌, ◌*◌, ◌/◌, ◌≤◌}
use native.Mathlib.Omega.{arith}
use lib.Dec.{leb}
use lib.IntN.{ℤ}
use lib.ListN.{length, take, drop, replicate, length-append, length-drop, take-append-drop}
use lib.Seq.{length-take-le, take-append-le, take-append-add, drop-append-add}
use borrow.Author.Tests.{le-leb, leb-true, leb-false}
use Rattle.error.specs.Codes.{is_ok}
use Rattle.error.specs.Answer.{answer}
use Rattle.error.proofs.Answers.{same_code, same_value}
use Rattle.words.proofs.Choice.{bool_ind, and_left, and_right}
use Rattle.machine.specs.declared.Machine.{Machine}
use Rattle.wellformed.specs.WellFormed.{well_formed}
use Rattle.operations.specs.Log.{state_at}
use Rattle.operations.proofs.Pieces.{state_alone}
use Rattle.log_tests.specs.RunCode.{run_code}
use Rattle.log_tests.specs.FeedCode.{completed_by, feed_code}
use Rattle.log_tests.proofs.FeedCodes.{few_pending, short_enough, feed_runs}
use Rattle.runner.specs.Run.{room_at, on_ok, ran, ran_room}
use Rattle.runner.proofs.Answers.{room_alone}
use Rattle.feed.specs.declared.Form.{Form}
use Rattle.feed.specs.Feed.{with_machine, arrived, completed, padded, taken, code_fed, fed_room}

-- Whether a fragment of this size, which is not too long, completes a record.
abbrev pub completing : ℕ → ℕ → Bool
completing count size = leb count 11 && (leb size 24576 && leb 12 (count + size))

module _ (count size : ℕ) (yes : completing count size ≡ true) where
  pub few : count ≤ 11
  few = leb-true count 11 (and_left (leb count 11) _ yes)

  pub short : size ≤ 24576
  short = leb-true size 24576 (and_left (leb size 24576) _ (and_right (leb count 11) _ yes))

  pub whole : 12 ≤ count + size
  whole = leb-true 12 (count + size) (and_right (leb size 24576) _ (and_right (leb count 11) _ yes))

-- A fragment that could be taken and completes nothing has no record in it.
no_record : (count size : ℕ) → completing count size ≡ false → count ≤ 11 → size ≤ 24576 → completed_by count size ≡ 0
no_record count size none few_bytes not_long =
    let less = leb-false 12 (count + size) (rw (le-leb _ _ few_bytes, le-leb _ _ not_long) at none) in omega (arith, less)

-- What the function that runs the records promises.
pub record Runs (f : Form) (fragment room : List ℕ) (number : ℤ) (after : Form) (written : List ℕ) : Type 0 where
  pub code : number ≡ code_fed f fragment (length room)
  pub form : after ≡ on_ok number (with_machine f (taken f fragment).machine) f
  pub room_is : written ≡ fed_room f fragment room

-- What is left to show where the code is known: what a fragment that is taken leaves. One that is refused leaves everything.
by_code : (f : Form) (fragment room : List ℕ) {code : ℤ} {after : Form} {written : List ℕ} → code ≡ code_fed f fragment (length room)
    → (is_ok code ≡ false → (after ≡ f) × (written ≡ room))
    → (is_ok code ≡ true → (after ≡ with_machine f (state_at f.machine (arrived f fragment) (completed f fragment)))
    × (written ≡ room_at f.machine (arrived f fragment) room (completed f fragment)))
    → Runs f fragment room code after written
unfolding taken fed_room
by_code f fragment room {code = code} {after = after} {written = written} is refused done =
    record {
      code = is;
      form =
          bool_ind (λ t. after ≡ cond t (with_machine f (state_at f.machine (arrived f fragment) (completed f fragment))) f) (is_ok code)
          (λ e. (done e).0) (λ e. (refused e).0);
      room_is =
          bool_ind (λ t. written ≡ cond t (room_at f.machine (arrived f fragment) room (completed f fragment)) room) (is_ok code)
          (λ e. (done e).1) (λ e. (refused e).1)
          ∙ ap (λ c. on_ok c (room_at f.machine (arrived f fragment) room (completed f fragment)) room) is;
    }

-- No record is completed.
pub waits : (f : Form) (fragment room : List ℕ) → completing f.count (length fragment) ≡ false → {formed : Bool} {code : ℤ}
    → formed ≡ well_formed f.machine → code ≡ feed_code formed f.count (length fragment) (length room)
    → Runs f fragment room code f room
unfolding state_at room_at
waits f fragment room none {formed = formed} {code = code} formed-is is =
    let nothing : is_ok code ≡ true → completed f fragment ≡ 0 = λ e.
    no_record f.count (length fragment) none
    (few_pending formed f.count (length fragment) (length room) (ap is_ok (sym is) ∙ e))
    (short_enough formed f.count (length fragment) (length room) (ap is_ok (sym is) ∙ e)) in
    by_code f fragment room (is ∙ ap (λ t. feed_code t f.count (length fragment) (length room)) formed-is)
    (λ e. (refl, refl))
    (λ e. (
      sym (ap (λ n. with_machine f (state_at f.machine (arrived f fragment) n)) (nothing e)),
      sym (ap (room_at f.machine (arrived f fragment) room) (nothing e)),
    ))

-- Records are completed: the first, put together, and those that lie behind it in the fragment.
module _ (f : Form) (fragment room : List ℕ) (eleven : length f.pending ≡ 11) (some : completing f.count (length fragment) ≡ true) where
  abbrev all : List ℕ
  all = arrived f fragment

  abbrev from : ℕ
  from = 12 - f.count

  abbrev behind : ℕ
  behind = length (drop from fragment) / 12 * 12

  front_length : length (take f.count f.pending) ≡ f.count
  front_length = length-take-le f.count f.pending (omega (arith, few f.count (length fragment) some))

  all_length : length all ≡ f.count + length fragment
  all_length = length-append (take f.count f.pending) fragment ∙ omega (arith, front_length)

  long : completed f fragment * 12 ≤ length all
  long = omega (arith, all_length)

  size : completed f fragment * 12 ≡ 12 + behind
  size = omega (arith, length-drop from fragment, few f.count (length fragment) some, whole f.count (length fragment) some)

  first_is : padded 12 all ≡ take 12 all
  first_is = take-append-le 12 all (replicate 12 0) (omega (arith, all_length, whole f.count (length fragment) some))

  behind_first : drop 12 all ≡ drop from fragment
  behind_first =
      let seam : 12 ≡ length (take f.count f.pending) + from = omega (arith, front_length, few f.count (length fragment) some) in
      ap (λ n. drop n all) seam ∙ drop-append-add (take f.count f.pending) fragment from

  -- The two parts are the whole records of what has arrived.
  parts : padded 12 all ++ take behind (drop from fragment) ≡ take (completed f fragment * 12) all
  parts =
      let twelve : length (take 12 all) ≡ 12 = length-take-le 12 all (omega (arith, all_length, whole f.count (length fragment) some)) in
      let seam : length (take 12 all) + behind ≡ completed f fragment * 12 = omega (arith, twelve, size) in
      ap (λ x. x ++ take behind (drop from fragment)) first_is
      ∙ ap (λ x. take 12 all ++ take behind x) (sym behind_first)
      ∙ sym (take-append-add (take 12 all) (drop 12 all) behind)
      ∙ ap₂ (λ k x. take k x) seam (take-append-drop 12 all)

  parts_length : length (take (completed f fragment * 12) all) ≡ completed f fragment * 12
  parts_length = length-take-le (completed f fragment * 12) all long

  records : length (take (completed f fragment * 12) all) / 12 ≡ completed f fragment
  records = omega (arith, parts_length)

  -- A run of the two parts is the run of the records of what has arrived.
  pub runs : {first : List ℕ} {is : ℤ} {after : Machine} (written : List ℕ) → first ≡ padded 12 (arrived f fragment)
      → answer is after ≡ ran f.machine (first ++ take behind (drop from fragment)) (length room)
      → written ≡ ran_room f.machine (first ++ take behind (drop from fragment)) room
      → Runs f fragment room is (with_machine f after) written
  unfolding ran ran_room
  runs {is = number} {after = after} written put says wrote =
      let m = f.machine in
      let n = completed f fragment in
      let log = take (n * 12) all in
      let one = ap (λ x. x ++ take behind (drop from fragment)) put ∙ parts in
      let code = run_code (well_formed m) (length log) (length room) in
      let told : answer number after ≡ ran m log (length room) = says ∙ ap (λ l. ran m l (length room)) one in
      let is : number ≡ code = same_code told in
      let state : after ≡ on_ok code (state_at m log (length log / 12)) m = same_value told in
      let room_is : written ≡ on_ok code (room_at m log room (length log / 12)) room = wrote ∙ ap (λ l. ran_room m l room) one in
      by_code f fragment room
      (is ∙ ap (λ k. run_code (well_formed m) k (length room)) parts_length
      ∙ feed_runs (well_formed m) f.count (length fragment) (length room)
      (few f.count (length fragment) some) (short f.count (length fragment) some))
      (λ e. (
        ap (with_machine f) (state ∙ ap (λ t. cond t (state_at m log (length log / 12)) m) (ap is_ok (sym is) ∙ e)),
        room_is ∙ ap (λ t. cond t (room_at m log room (length log / 12)) room) (ap is_ok (sym is) ∙ e),
      ))
      (λ e. (
        ap (with_machine f)
            (state ∙ ap (λ t. cond t (state_at m log (length log / 12)) m) (ap is_ok (sym is) ∙ e)
            ∙ ap (state_at m log) records ∙ sym (state_alone m all n long)),
        room_is ∙ ap (λ t. cond t (room_at m log room (length log / 12)) room) (ap is_ok (sym is) ∙ e)
            ∙ ap (room_at m log room) records ∙ sym (room_alone m all room n long),
      ))

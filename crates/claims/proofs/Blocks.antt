-- The answers of a whole log, block by block: a run of the records of one block, from where the last one ended, leaves those in its room that the
-- whole log has there. Assumes nothing.
use mathlib.Core.Path.{◌≡◌, refl, ap, ap₂, sym, ◌∙◌}
use mathlib.Core.Bool.{true}
use mathlib.Core.List.{List, [], ◌∷◌, ◌++◌}
use Prim.Native.Nat.{ℕ, zero, suc, ◌+◌, ◌-◌, ◌*◌, ◌/◌, ◌≤◌, ◌<◌}
use native.Mathlib.Omega.{arith}
use lib.Dec.{ltb}
use lib.ListN.{length, take, drop, length-append, length-drop, take-append-drop}
use lib.Seq.{length-take-le, take_at, drop_at, take-take, drop-drop}
use lib.IntN.{ℤ}
use borrow.Author.Tests.{ltb-true, ltb-false}
use Rattle.std.specs.Prelude.{min}
use Rattle.std.proofs.lemmas.List.{nil_from_length}
use Rattle.words.proofs.Choice.{bool_ind}
use Rattle.error.specs.Codes.{OK}
use Rattle.error.specs.Answer.{answer}
use Rattle.error.proofs.Answers.{same_value}
use Rattle.machine.specs.declared.Machine.{Machine}
use Rattle.wellformed.specs.WellFormed.{well_formed}
use Rattle.log_tests.specs.RunCode.{run_code}
use Rattle.log_tests.proofs.Codes as codes
use Rattle.operations.specs.Log.{state_at}
use Rattle.operations.proofs.Lengths.{Lengths}
use Rattle.operations.proofs.Pieces.{state_pieces, state_alone}
use Rattle.kept.proofs.Laws.{states_keep}
use Rattle.runner.specs.Run.{answers_of, room_at, ran, ran_room}
use Rattle.runner.proofs.Answers.{answers_length, answers_pieces, room_is}
use Rattle.claims.specs.Claims.{answer_in}

-- Behind the first a records.
module _ (m : Machine) (log : List ℕ) (a : ℕ) (long : a * 12 ≤ length log) where
  whole : length (take (a * 12) log) ≡ a * 12
  whole = length-take-le (a * 12) log long

  there : state_at m (take (a * 12) log) a ≡ state_at m log a
  there = sym (state_alone m log a long)

  pub state_behind : (k : ℕ) → state_at m log (a + k) ≡ state_at (state_at m log a) (drop (a * 12) log) k
  state_behind k =
      ap (λ l. state_at m l (a + k)) (sym (take-append-drop (a * 12) log))
      ∙ state_pieces m (take (a * 12) log) (drop (a * 12) log) a whole k
      ∙ ap (λ x. state_at x (drop (a * 12) log) k) there

  abbrev first : List ℕ
  first = answers_of m (take (a * 12) log) a

  abbrev others : ℕ → List ℕ
  others k = answers_of (state_at m log a) (drop (a * 12) log) k

  cut : (k : ℕ) → answers_of m log (a + k) ≡ first ++ others k
  cut k =
      ap (λ l. answers_of m l (a + k)) (sym (take-append-drop (a * 12) log))
      ∙ answers_pieces m (take (a * 12) log) (drop (a * 12) log) a whole k
      ∙ ap (λ x. first ++ answers_of x (drop (a * 12) log) k) there

  pub answers_behind : (k : ℕ) → drop (a * 8) (answers_of m log (a + k)) ≡ others k
  answers_behind k = ap (drop (a * 8)) (cut k) ∙ drop_at first (others k) (a * 8) (answers_length m (take (a * 12) log) a)

  pub answers_front : (k : ℕ) → take (a * 8) (answers_of m log (a + k)) ≡ first
  answers_front k = ap (take (a * 8)) (cut k) ∙ take_at first (others k) (a * 8) (answers_length m (take (a * 12) log) a)

-- A part of the front of a list is that part of the list.
pub take_in : (k j n : ℕ) (l : List ℕ) → j + k ≤ n → take k (drop j (take n l)) ≡ take k (drop j l)
take_in k zero n l h = take-take k n l (omega (arith, h))
take_in k (suc j) zero l h = absurd (omega (arith, h))
take_in k (suc j) (suc n) [] h = refl
take_in k (suc j) (suc n) (x ∷ xs) h = take_in k j n xs (omega (arith, h))

-- An answer in a part of the answers, and one in the front of them.
pub answer_in_front : (bytes : List ℕ) (b i : ℕ) → i < b → answer_in (take (b * 8) bytes) i ≡ answer_in bytes i
answer_in_front bytes b i h = take_in 8 (i * 8) (b * 8) bytes (omega (arith, h))

pub answer_in_part : (bytes : List ℕ) (a b i : ℕ) → i < b → answer_in (take (b * 8) (drop (a * 8) bytes)) i ≡ answer_in bytes (a + i)
answer_in_part bytes a b i h =
    let on : a * 8 + i * 8 ≡ (a + i) * 8 = omega arith in
    answer_in_front (drop (a * 8) bytes) b i h ∙ ap (take 8) (drop-drop (i * 8) (a * 8) bytes) ∙ ap (λ n. take 8 (drop n bytes)) on

-- A chunk that is cut off what is left of a list from a place on.
module _ (size at : ℕ) (whole rest x left : List ℕ) (here : rest ≡ drop at whole) (cut : rest ≡ x ++ left)
    (long : length x ≡ min size (length rest)) where
  pub taken : (k : ℕ) → k ≤ length x → take k x ≡ take k (drop at whole)
  taken k within =
      ap (take k) (sym (take_at x left (length x) refl) ∙ ap (take (length x)) (sym cut ∙ here))
      ∙ take-take k (length x) (drop at whole) within

  pub behind : left ≡ drop (at + size) whole
  behind =
      let both : length rest ≡ length x + length left = ap length cut ∙ length-append x left in
      let more : length rest ≡ length whole - at = ap length here ∙ length-drop at whole in
      bool_ind (λ _. left ≡ drop (at + size) whole) (ltb (length x) size)
      (λ e.
      let short = ltb-true (length x) size e in
      nil_from_length left (omega (arith, both, long, short))
      ∙ sym (nil_from_length (drop (at + size) whole) (omega (arith, both, more, long, short, length-drop (at + size) whole))))
      (λ e.
      let full : length x ≡ size = omega (arith, long, ltb-false (length x) size e) in
      sym (drop_at x left size full) ∙ ap (drop size) (sym cut ∙ here) ∙ drop-drop size at whole)

-- A block's records, on the machine after the `done` records before them.
module _ (m : Machine) (lengths : Lengths m) (good : well_formed m ≡ true) (log : List ℕ) (short : length log ≤ 24576)
    (done block : ℕ) (within : done + block ≤ length log / 12) where
  abbrev part : List ℕ
  part = take (block * 12) (drop (done * 12) log)

  abbrev here : Machine
  here = state_at m log done

  long : block * 12 ≤ length (drop (done * 12) log)
  long = omega (arith, length-drop (done * 12) log)

  part_length : length part ≡ block * 12
  part_length = length-take-le (block * 12) (drop (done * 12) log) long

  state_there : state_at here part block ≡ state_at m log (done + block)
  state_there =
      sym (state_alone here (drop (done * 12) log) block long) ∙ sym (state_behind m log done (omega arith) block)

  answers_there : answers_of here part block ≡ take (block * 8) (drop (done * 8) (answers_of m log (length log / 12)))
  answers_there =
      let rest = length log / 12 - (done + block) in
      let e : done + (block + rest) ≡ length log / 12 = omega arith in
      sym (answers_front here (drop (done * 12) log) block long rest)
      ∙ ap (take (block * 8)) (sym (answers_behind m log done (omega arith) (block + rest)))
      ∙ ap (λ n. take (block * 8) (drop (done * 8) (answers_of m log n))) e

  -- Run with room for its answers, on a machine and a part of the log that are these.
  module _ (room : List ℕ) (fits : block * 8 ≤ length room) where
    runs : run_code (well_formed here) (length part) (length room) ≡ OK
    runs =
        sym (codes.runs (well_formed here) (length part) (length room) (states_keep m lengths log done good).1
        (omega (arith, part_length)) (omega (arith, part_length)) (omega (arith, part_length)))

    many : length part / 12 ≡ block
    many = omega (arith, part_length)

    state_run : (ran here part (length room)).value ≡ state_at m log (done + block)
    unfolding ran
    state_run = rw runs (ap (state_at here part) many ∙ state_there)

    answers_run : take (block * 8) (ran_room here part room) ≡ take (block * 8) (drop (done * 8) (answers_of m log (length log / 12)))
    unfolding ran_room
    answers_run =
        rw runs (ap (λ n. take (block * 8) (room_at here part room n)) many
        ∙ ap (take (block * 8)) (room_is here part room block fits)
        ∙ take_at (answers_of here part block) (drop (block * 8) room) (block * 8) (answers_length here part block)
        ∙ answers_there)

    pub block_run : {now : Machine} {lent out : List ℕ} → now ≡ here → lent ≡ part → {code : ℤ} {end : Machine}
        → answer code end ≡ ran now lent (length room) → out ≡ ran_room now lent room
        → (end ≡ state_at m log (done + block))
        × (take (block * 8) out ≡ take (block * 8) (drop (done * 8) (answers_of m log (length log / 12))))
    block_run state is says wrote = (
      same_value says ∙ ap₂ (λ x l. (ran x l (length room)).value) state is ∙ state_run,
      ap (take (block * 8)) (wrote ∙ ap₂ (λ x l. ran_room x l room) state is) ∙ answers_run,
    )

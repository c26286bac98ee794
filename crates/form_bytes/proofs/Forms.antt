-- What each call on a form's bytes says at its codes, over plain variables. Assumes nothing.
use mathlib.Core.Path.{◌≡◌, refl, ap, sym, ◌∙◌}
use mathlib.Core.Bool.{true, false, cond}
use mathlib.Core.List.{List, ◌++◌}
use Prim.Native.Nat.{ℕ, ◌+◌, ◌%◌, ◌≤◌}
use native.Mathlib.Omega.{arith}
use lib.Dec.{ltb}
use lib.IntN.{ℤ}
use lib.ListN.{length, drop}
use Rattle.error.specs.Codes.{OK, ENOMEM, EINVAL, is_ok, refusal_number}
use Rattle.error.specs.Answer.{answer}
use Rattle.error.specs.declared.Refusal.{Refusal}
use Rattle.error.specs.declared.Refusal.TheVariants.{Einval}
use Rattle.error.proofs.OneResult.{refusal_is_not_ok}
use Rattle.error.proofs.Answers.{same_code, same_value, refusal_refuses}
use Rattle.words.proofs.Choice.{bool_ind}
use Rattle.machine.specs.State.{setup, least_machine}
use Rattle.machine.specs.declared.Machine.{Machine}
use Rattle.runner.specs.Run.{on_ok}
use Rattle.feed.specs.declared.Form.{Form}
use Rattle.feed.specs.Feed.{begun, started, taken, completed, code_fed, fed, fed_room, finished}
use Rattle.form_bytes.specs.Form.{
  form_bytes,
  form_of,
  started_by,
  start_code,
  start_room,
  start_form,
  on_form,
  fed_code,
  records_fed,
  fed_by,
  form_after,
  fed_form,
  room_after,
  finished_code,
}

-- Bytes that are a form, and bytes that are none.
module _ (bs : List ℕ) where
  pub enough : OK ≡ on_form bs OK EINVAL → ltb (length bs) 2962 ≡ false
  enough =
      bool_ind (λ short. OK ≡ cond short EINVAL OK → short ≡ false) (ltb (length bs) 2962) (λ _ e. absurd (refusal_is_not_ok Einval e))
      (λ _ _. refl)

  too_few : (why : Refusal) → refusal_number why ≡ on_form bs OK EINVAL → (ltb (length bs) 2962 ≡ true) × (refusal_number why ≡ EINVAL)
  too_few why =
      bool_ind (λ short. refusal_number why ≡ cond short EINVAL OK → (short ≡ true) × (refusal_number why ≡ EINVAL)) (ltb (length bs) 2962)
      (λ _ e. (refl, e)) (λ _ e. absurd (refusal_is_not_ok why (sym e)))

-- A start.
abbrev pub Starts : ℕ → List ℕ → ℤ → List ℕ → Type 0
Starts byte room code after = (code ≡ start_code byte (length room)) × ((after ≡ start_room byte room) × (form_of after ≡ start_form byte room))

module _ (byte : ℕ) (room : List ℕ) where
  -- A start that is refused.
  leaves : (why : Refusal) → (started_by byte).code ≡ refusal_number why → Starts byte room (refusal_number why) room
  unfolding start_code start_room start_form
  leaves why is =
      let bad = refusal_refuses why in
      (rw (is, bad), (rw (is, bad, bad), rw (is, bad, bad)))

  setup_code : (why : Refusal) → answer (refusal_number why) least_machine ≡ setup byte → (started_by byte).code ≡ refusal_number why
  unfolding started_by
  setup_code why e = rw (← same_code e, refusal_refuses why)

  pub bad_setup : (why : Refusal) → answer (refusal_number why) least_machine ≡ setup byte → Starts byte room (refusal_number why) room
  bad_setup why e = leaves why (setup_code why e)

  module _ (m : Machine) (made : answer OK m ≡ setup byte) where
    begins : started_by byte ≡ started m
    unfolding started_by
    begins = rw (← same_code made, ← same_value made)

    pub bad_start : (why : Refusal) → answer (refusal_number why) (begun m) ≡ started m → Starts byte room (refusal_number why) room
    bad_start why e = leaves why (same_code begins ∙ sym (same_code e))

    module _ (form : Form) (e : answer OK form ≡ started m) where
      pub none_pending : form.count ≤ 11
      unfolding started
      none_pending = let none : form.count ≡ 0 = ap (λ (f : Form). f.count) (same_value e) in omega (arith, none)

      pub good_start : {code : ℤ} {after : List ℕ} → code ≡ cond (ltb (length room) 2962) ENOMEM OK
          → after ≡ on_ok code (form_bytes form ++ drop 2962 room) room → form_of after ≡ on_ok code form (form_of room)
          → Starts byte room code after
      unfolding start_code start_room start_form
      good_start is wrote back =
          let of : started_by byte ≡ answer OK form = begins ∙ sym e in
          (rw of is, (rw (of, ← is) wrote, rw (of, ← is) back))

-- A feed.
abbrev pub Feeds : List ℕ → List ℕ → List ℕ → ℤ → ℕ → List ℕ → List ℕ → Type 0
Feeds bs fragment room code records after written =
    (answer code records ≡ fed_by bs fragment (length room)) × ((after ≡ form_after bs fragment (length room))
    × ((form_of after ≡ fed_form bs fragment (length room)) × (written ≡ room_after bs fragment room)))

module _ (bs fragment room : List ℕ) where
  pub no_form : (why : Refusal) → refusal_number why ≡ on_form bs OK EINVAL → Feeds bs fragment room (refusal_number why) 0 bs room
  unfolding fed_code records_fed form_after fed_form room_after
  no_form why e =
      let short = too_few bs why e in
      (rw (short.0, short.1), (rw short.0, (rw short.0, rw short.0)))

  module _ (whole : OK ≡ on_form bs OK EINVAL) {form : Form} (read : form ≡ form_of bs) {code : ℤ} {after : Form} {records : ℕ}
      (says : answer code (after, records) ≡ fed form fragment (length room)) {written : List ℕ} (wrote : written ≡ fed_room form fragment room)
    where
      says_of : answer code (after, records) ≡ fed (form_of bs) fragment (length room)
      says_of = says ∙ ap (λ (f : Form). fed f fragment (length room)) read

      of : code_fed (form_of bs) fragment (length room) ≡ code
      unfolding fed
      of = sym (same_code says_of)

      code_is : fed_code bs fragment (length room) ≡ code
      unfolding fed_code
      code_is = rw (enough bs whole) of

      room_is : written ≡ room_after bs fragment room
      unfolding room_after
      room_is = wrote ∙ ap (λ (f : Form). fed_room f fragment room) read ∙ rw (enough bs whole)

      pub feed_refused : is_ok code ≡ false → Feeds bs fragment room code 0 bs written
      unfolding records_fed form_after fed_form
      feed_refused bad = (rw (code_is, bad), (rw (code_is, bad), (rw (code_is, bad), room_is)))

      module _ (fine : is_ok code ≡ true) where
        value_is : ◌≡◌ {A = Form × ℕ} (after, records) (taken (form_of bs) fragment, completed (form_of bs) fragment)
        unfolding fed
        value_is = same_value says_of ∙ rw (of, fine)

        form_is : after ≡ taken (form_of bs) fragment
        form_is = ap (λ (v : Form × ℕ). v.0) value_is

        pub fed_count : after.count ≤ 11
        unfolding taken
        fed_count =
            let n : after.count ≡ ((form_of bs).count + length fragment) % 12 = ap (λ (f : Form). f.count) form_is in omega (arith, n)

        pub feed_taken : (put : List ℕ) → put ≡ form_bytes after ++ drop 2962 bs → form_of put ≡ after
            → Feeds bs fragment room code records put written
        unfolding records_fed form_after fed_form
        feed_taken put over back = (
          ap (answer code) (ap (λ (v : Form × ℕ). v.1) value_is) ∙ rw (code_is, fine),
          (
            over ∙ ap (λ (f : Form). form_bytes f ++ drop 2962 bs) form_is ∙ rw (code_is, fine),
            (back ∙ form_is ∙ rw (code_is, fine), room_is),
          ),
        )

  -- There is room for the form where it was read.
  pub room_again : OK ≡ on_form bs OK EINVAL → (why : Refusal) → refusal_number why ≡ cond (ltb (length bs) 2962) ENOMEM OK → ⊥
  room_again whole why e = refusal_is_not_ok why (sym (e ∙ ap (λ t. cond t ENOMEM OK) (enough bs whole)))

-- A finish, of too few bytes and of a form.
module _ (bs : List ℕ) where
  pub finish_refused : (why : Refusal) → refusal_number why ≡ on_form bs OK EINVAL → refusal_number why ≡ finished_code bs
  unfolding finished_code
  finish_refused why e = let short = too_few bs why e in short.1 ∙ rw short.0

  pub finish_says : OK ≡ on_form bs OK EINVAL → {form : Form} {code : ℤ} → form ≡ form_of bs → answer code form ≡ finished form
      → code ≡ finished_code bs
  unfolding finished_code
  finish_says whole read says = same_code says ∙ ap (λ (f : Form). (finished f).code) read ∙ rw (enough bs whole)

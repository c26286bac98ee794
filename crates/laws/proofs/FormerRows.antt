-- The form test of today beside the former one: their rows differ at 4 and 5; the row of 4 says what it said of every A but 1, and of A = 1 what
-- the row of 5 said of zero; at 5 no row is left. Assumes nothing.
use mathlib.Core.Path.{◌≡◌, refl, sym, ap, ◌∙◌, subst}
use mathlib.Core.Bool.{false, ◌&&◌, cond}
use mathlib.Core.List.{List, [], ◌∷◌}
use Prim.Native.Nat.{ℕ, ◌+◌, ◌/◌, ◌%◌}
use native.Mathlib.Omega.{arith}
use lib.Dec.{eqb, ltb}
use lib.ListN.{length, get_or, set}
use lib.Seq.{get_or-set_other}
use borrow.Author.Tests.{eqb-true, eqb-false, lt-ltb, le-ltb}
use Rattle.words.proofs.Choice.{bool_ind}
use Rattle.machine.specs.declared.Setup.{Setup}
use Rattle.record.specs.Record.{Row, rows, no_row, row_of, fields_of, fits, carried, malformed, of_fields, request_of}
use Rattle.record.proofs.Range.{no_row_past}
use Rattle.record.proofs.Laws.{firsts_all}
use Rattle.laws.specs.FormerForm.{plain_row, nested_row, former_rows, former_row, former_fields, former_request, is_five, is_nested, as_five}

-- The former table is that of today with two rows put back.
put_back : former_rows ≡ set (set rows 4 plain_row) 5 nested_row
put_back = refl

same_row : (number : ℕ) → eqb number 4 ≡ false → eqb number 5 ≡ false → row_of number ≡ former_row number
unfolding row_of former_row
same_row number not4 not5 =
    sym (get_or-set_other rows 4 number plain_row no_row (eqb-false number 4 not4))
    ∙ sym (get_or-set_other (set rows 4 plain_row) 5 number nested_row no_row (eqb-false number 5 not5))
    ∙ ap (λ (rs : List Row). get_or rs number no_row) (sym put_back)

-- What may be a flag, and is not 1, is zero.
flag_or_zero : (a : ℕ) → eqb a 1 ≡ false → ltb a 2 ≡ eqb a 0
flag_or_zero a other =
    bool_ind (λ t. ltb a 2 ≡ t) (eqb a 0) (λ e. let none = eqb-true a 0 e in lt-ltb a 2 (omega arith)) (λ e.
    let some = eqb-false a 0 e in
    let not1 = eqb-false a 1 other in
    le-ltb a 2 (omega arith))

-- At 4 the two rows tell of every other A the same.
same_at_four : (n : ℕ) (bs : List ℕ) → (fields_of bs).operation ≡ 4 → eqb (fields_of bs).a 1 ≡ false → of_fields n (fields_of bs) ≡ former_fields n bs
unfolding row_of former_row fits
same_at_four n bs four plain = rw (four, flag_or_zero (fields_of bs).a plain, plain)

pub same_fields : (n : ℕ) (bs : List ℕ) → is_five bs ≡ false → is_nested bs ≡ false → of_fields n (fields_of bs) ≡ former_fields n bs
same_fields n bs not5 =
    let f = fields_of bs in
    bool_ind (λ t. eqb f.operation 4 ≡ t → t && eqb f.a 1 ≡ false → of_fields n f ≡ former_fields n bs) (eqb f.operation 4)
    (λ _ four plain. same_at_four n bs (eqb-true f.operation 4 four) plain) (λ _ not4 _. rw (same_row f.operation not4 not5)) refl

-- At 5 nothing is asked for.
pub nothing_at_five : (n : ℕ) (bs : List ℕ) → (fields_of bs).operation ≡ 5 → of_fields n (fields_of bs) ≡ malformed
unfolding row_of
nothing_at_five n bs five =
    let f = fields_of bs in
    bool_ind (λ t. cond (t && fits n (row_of f.operation) f) (carried (row_of f.operation) f) malformed ≡ malformed) (eqb f.zero 0)
    (λ _. sym (no_row_past n f (ap row_of five))) (λ _. refl)

-- Twelve bytes of operation 4 with A = 1, and the same ones as operation 5.
abbrev Moved : Setup → List ℕ → Type 0
Moved k bs = (fields_of bs).operation ≡ 4 → (fields_of bs).a ≡ 1 → request_of k bs ≡ former_request k (as_five bs)

moved : (k : Setup) (o t l z a₀ a₁ a₂ a₃ b₀ b₁ b₂ b₃ : ℕ) → Moved k (o ∷ t ∷ l ∷ z ∷ a₀ ∷ a₁ ∷ a₂ ∷ a₃ ∷ b₀ ∷ b₁ ∷ b₂ ∷ b₃ ∷ [])
unfolding request_of former_request as_five fields_of row_of former_row fits
moved k o t l z a₀ a₁ a₂ a₃ b₀ b₁ b₂ b₃ four one =
    let five : (o + 16) / 16 ≡ 5 = omega arith in
    let cpu : (o + 16) % 16 ≡ o % 16 = omega arith in
    rw (four, one, five, cpu)

pub twelve_moved : (k : Setup) (bs : List ℕ) → length bs ≡ 12 → Moved k bs
twelve_moved k bs e = subst (Moved k) (sym (firsts_all 12 bs e)) (moved k _ _ _ _ _ _ _ _ _ _ _ _)

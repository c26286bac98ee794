-- The constant table is the rule, proved once over the whole table: with each code as its number, the table is the rule's own table
-- (`table_is_rule`, by computing). An entry's number is then the rule of its row at its situation. Assumes nothing.
use mathlib.Core.Path.{◌≡◌, refl, sym, ap, ◌∙◌}
use mathlib.Core.Bool.{true, false}
use mathlib.Core.List.{List, [], ◌∷◌, map}
use Prim.Native.Nat.{ℕ, zero, suc, ◌<◌}
use native.Mathlib.Nat.{not-suc-le-zero, le_of_suc-le-suc}
use lib.Dec.{lit<}
use lib.IntN.{ℤ}
use lib.ListN.{length, get_or, get_or-map}
use Rattle.error.specs.Codes.{OK, number_of}
use Rattle.std.specs.Prelude.{Result, Ok, Err}
use Rattle.error.specs.declared.Refusal.{Refusal}
use Rattle.error.specs.declared.Refusal.TheVariants.{Eperm, Ebusy, Edeadlk}
use Rattle.spinlock.specs.Table.{row_of, column_of, code_of, code_again}
use Rattle.spinlock.specs.declared.Operation.{Operation}
use Rattle.spinlock.specs.declared.Operation.TheVariants.{Acquire, Release}
use Rattle.spinlock.specs.declared.Situation.{Situation}
use Rattle.spinlock.specs.declared.Situation.TheVariants.{Free, Own, Full, Foreign}

-- What an operation on a lock answers, apart from the record.
abbrev pub Coded : Type 0
Coded = Result (Unit {0}) Refusal

abbrev pub done : Coded
done = Ok tt

abbrev pub busy : Coded
busy = Err Ebusy

abbrev pub not_yours : Coded
not_yours = Err Eperm

abbrev pub deadlock : Coded
deadlock = Err Edeadlk

-- The table as the code has it.
abbrev pub codes : List (List Coded)
codes =
    (done ∷ busy ∷ busy ∷ busy ∷ [])
    ∷ (done ∷ done ∷ busy ∷ busy ∷ [])
    ∷ (not_yours ∷ done ∷ done ∷ not_yours ∷ [])
    ∷ (done ∷ deadlock ∷ deadlock ∷ deadlock ∷ [])
    ∷ []

-- The rule of each row.
abbrev rules : List (Situation → ℤ)
rules = code_of (Acquire false) ∷ code_of (Acquire true) ∷ code_of Release ∷ code_again ∷ []

abbrev situations : List Situation
situations = Free ∷ Own ∷ Full ∷ Foreign ∷ []

-- A row of the rules.
rule_row : (Situation → ℤ) → List ℤ
rule_row rule = map rule situations

numbers : List Coded → List ℤ
numbers = map number_of

table_is_rule : map numbers codes ≡ map rule_row rules
unfolding numbers rule_row code_of code_again
table_is_rule = refl

-- Within a list, what stands at a place does not hang on the default.
at_any : {A : Type 0} (xs : List A) (i : ℕ) (d e : A) → i < length xs → get_or xs i d ≡ get_or xs i e
at_any [] i d e h = absurd (not-suc-le-zero h)
at_any (x ∷ xs) zero d e h = refl
at_any (x ∷ xs) (suc i) d e h = at_any xs i d e (le_of_suc-le-suc h)

-- The rule of an operation stands at its row.
operation_at : (op : Operation) → (get_or rules (row_of op) code_again ≡ code_of op) × (row_of op < 4)
operation_at (Acquire false) = (refl, lit< tt)
operation_at (Acquire true) = (refl, lit< tt)
operation_at Release = (refl, lit< tt)

situation_in_table : (s : Situation) → (get_or situations (column_of s) Free ≡ s) × (column_of s < 4)
situation_in_table Free = (refl, lit< tt)
situation_in_table Own = (refl, lit< tt)
situation_in_table Full = (refl, lit< tt)
situation_in_table Foreign = (refl, lit< tt)

module _ (row : ℕ) (rule : Situation → ℤ) (at : get_or rules row code_again ≡ rule) (few : row < 4) where
  row_is_rule : numbers (get_or codes row []) ≡ rule_row rule
  unfolding numbers
  row_is_rule =
      sym (get_or-map numbers codes row [])
      ∙ ap (λ (rows : List (List ℤ)). get_or rows row []) table_is_rule
      ∙ at_any (map rule_row rules) row [] (rule_row code_again) few
      ∙ get_or-map rule_row rules row code_again
      ∙ ap rule_row at

  rule_entry : (s : Situation) → number_of (get_or (get_or codes row []) (column_of s) done) ≡ rule s
  unfolding numbers rule_row
  rule_entry s =
      sym (get_or-map number_of (get_or codes row []) (column_of s) done)
      ∙ ap (λ (r : List ℤ). get_or r (column_of s) OK) row_is_rule
      ∙ at_any (rule_row rule) (column_of s) OK (rule Free) (situation_in_table s).1
      ∙ get_or-map rule situations (column_of s) Free
      ∙ ap rule (situation_in_table s).0

pub entry : (op : Operation) (s : Situation) → number_of (get_or (get_or codes (row_of op) []) (column_of s) done) ≡ code_of op s
entry op s = rule_entry (row_of op) (code_of op) (operation_at op).0 (operation_at op).1 s

-- The last row is that of a plain acquire again.
pub entry_again : (s : Situation) → number_of (get_or (get_or codes 3 []) (column_of s) done) ≡ code_again s
entry_again s = rule_entry 3 code_again refl (lit< tt) s

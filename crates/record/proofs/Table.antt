-- What holds of each row of the table holds of the row of every number. Assumes nothing.
use mathlib.Core.Path.{sym, ◌∙◌, subst}
use mathlib.Core.List.{List, [], ◌∷◌}
use Prim.Native.Nat.{ℕ, zero, suc, ◌+◌}
use native.Mathlib.Nat.{add-zero, zero-add, add-suc, suc-add}
use lib.ListN.{get_or}
use Rattle.record.specs.Record.{Row, rows, no_row, row_of}

-- What holds of each row and its number holds of the row of every number.
abbrev pub Each : (ℕ → Row → Type 0) → ℕ → List Row → Type 0
Each P i [] = Unit {0}
Each P i (r ∷ rs) = P i r × Each P (suc i) rs

each_at : (P : ℕ → Row → Type 0) (d : Row) → ((i : ℕ) → P i d) → (rs : List Row) (i : ℕ) → Each P i rs → (k : ℕ) → P (i + k) (get_or rs k d)
each_at P d past [] i all k = past (i + k)
each_at P d past (r ∷ rs) i all zero = subst (λ (m : ℕ). P m r) (sym (add-zero i)) all.0
each_at P d past (r ∷ rs) i all (suc k) =
    subst (λ (m : ℕ). P m (get_or rs k d)) (suc-add i k ∙ sym (add-suc i k)) (each_at P d past rs (suc i) all.1 k)

pub every_row : (P : ℕ → Row → Type 0) → ((i : ℕ) → P i no_row) → Each P 0 rows → (op : ℕ) → P op (row_of op)
unfolding row_of
every_row P past all op = subst (λ (m : ℕ). P m (get_or rows op no_row)) (zero-add op) (each_at P no_row past rows 0 all op)

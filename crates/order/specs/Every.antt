-- The cells of one kind as part of a footprint, and a function of all their values. The cells are made by recursion on their number, so that
-- proofs go by laws (proofs/Every.antt) and not by writing them out.
use Prim.Native.Nat.{ℕ, zero, suc}
use mathlib.Core.List.{List, [], ◌∷◌, ◌++◌}
use Rattle.std.specs.Prelude.{get_or}
use Rattle.order.specs.Cells.{Store, Fn, Vals}

module _ (𝒮 : Store) where
  open 𝒮 use {Cell, Val}

  -- The cells of a kind with the numbers below k, the last one first, and then the rest.
  unfoldable pub every : (ℕ → Cell) → ℕ → List Cell → List Cell
  every cell zero rest = rest
  every cell (suc k) rest = cell k ∷ every cell k rest

  -- A function of the list of their values, the first one first, and of the values of the rest and of more cells.
  unfoldable pub gather : (X : Type 0) {Y : Type 0} (cell : ℕ → Cell) (value : (i : ℕ) → Val (cell i) → Y) (k : ℕ) (rest more : List Cell)
      → (List Y → Fn 𝒮 (rest ++ more) X) → Fn 𝒮 (every cell k rest ++ more) X
  unfolding every
  gather X cell value zero rest more f = f []
  gather X cell value (suc k) rest more f = λ v. gather X cell value k rest more (λ vs. f (vs ++ (value k v ∷ [])))

  -- The same where no more cells follow the rest.
  unfoldable pub collect : (X : Type 0) {Y : Type 0} (cell : ℕ → Cell) (value : (i : ℕ) → Val (cell i) → Y) (k : ℕ) (rest : List Cell)
      → (List Y → Fn 𝒮 rest X) → Fn 𝒮 (every cell k rest) X
  unfolding every
  collect X cell value zero rest f = f []
  collect X cell value (suc k) rest f = λ v. collect X cell value k rest (λ vs. f (vs ++ (value k v ∷ [])))

  -- A list, the first one first, as new values for these cells, and then the values for the rest. (`none` stands past the end of the list.)
  unfoldable pub spread : {Y : Type 0} (cell : ℕ → Cell) (value : (i : ℕ) → Y → Val (cell i)) (none : Y) (k : ℕ) (rest : List Cell)
      → List Y → Vals 𝒮 rest → Vals 𝒮 (every cell k rest)
  unfolding every
  spread cell value none zero rest ys others = others
  spread cell value none (suc k) rest ys others = (value k (get_or ys k none), spread cell value none k rest ys others)

-- A machine made of cells, and operations that see only the cells that they name: what an operation can read and write is in its type, so a
-- footprint that is too small does not type-check.
use Rattle.std.specs.Prelude.{List, [], ◌∷◌, ◌++◌}
use Rattle.order.specs.Outcome.{Outcome, refuse, accept, answer_of}

-- The cells, what each holds, and how one is read and written.
pub record Store : Type 1 where
  pub Cell : Type 0
  pub Val : Cell → Type 0
  pub M : Type 0
  pub get : (c : Cell) → M → Val c
  pub put : (c : Cell) → Val c → M → M

module _ (𝒮 : Store) where
  open 𝒮 use {Cell, Val, M, get, put}

  -- Values for some cells.
  abbrev pub Vals : List Cell → Type 0
  Vals [] = Unit {0}
  Vals (c ∷ cs) = Val c × Vals cs

  -- A function of the values of some cells.
  abbrev pub Fn : List Cell → Type 0 → Type 0
  Fn [] X = X
  Fn (c ∷ cs) X = Val c → Fn cs X

  -- That function at a machine's values.
  abbrev pub feed : {X : Type 0} (cs : List Cell) → Fn cs X → M → X
  feed [] f m = f
  feed (c ∷ cs) f m = feed cs (f (get c m)) m

  -- The machine with new values in some cells.
  abbrev pub store : (cs : List Cell) → Vals cs → M → M
  store [] vs m = m
  store (c ∷ cs) vs m = put c vs.0 (store cs vs.1 m)

-- An operation that answers with an A: the cells that it reads, the cells that it writes (which it reads too), and a function of their values.
pub record Op (𝒮 : Store) (A : Type 0) : Type 0 where
  pub reads : List 𝒮.Cell
  pub writes : List 𝒮.Cell
  pub body : Fn 𝒮 (reads ++ writes) (Outcome A (Vals 𝒮 writes))

module _ (𝒮 : Store) (A : Type 0) where
  -- What an operation comes to on a machine.
  abbrev pub result : (o : Op 𝒮 A) → 𝒮.M → Outcome A (Vals 𝒮 o.writes)
  result o m = feed 𝒮 (o.reads ++ o.writes) o.body m

  -- A refusal leaves the machine; what is accepted is stored.
  abbrev pub commit : (cs : List 𝒮.Cell) → Outcome A (Vals 𝒮 cs) → 𝒮.M → 𝒮.M
  commit cs (refuse a) m = m
  commit cs (accept a vs) m = store 𝒮 cs vs m

  -- The machine after an operation, and its answer.
  abbrev pub after : 𝒮.M → Op 𝒮 A → 𝒮.M
  after m o = commit o.writes (result o m) m

  abbrev pub reply : 𝒮.M → Op 𝒮 A → A
  reply m o = answer_of (result o m)

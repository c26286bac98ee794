-- The cells that an operation touches, and when two operations clash.
use Rattle.std.specs.Prelude.{◌≡◌, List, ◌∷◌, ◌++◌}
use Rattle.order.specs.Cells.{Store, Op}

-- A cell is in a list.
pub data In {C : Type 0} (c : C) : List C → Type 0 where
  here : {d : C} {cs : List C} → c ≡ d → In c (d ∷ cs)
  there : {d : C} {cs : List C} → In c cs → In c (d ∷ cs)

-- The cells that an operation reads, and those that it writes.
pub record Footprint (C : Type 0) : Type 0 where
  pub reads : List C
  pub writes : List C

-- An operation's own cells.
abbrev pub cells_of : {𝒮 : Store} {A : Type 0} → Op 𝒮 A → Footprint 𝒮.Cell
cells_of o = record { reads = o.reads; writes = o.writes }

-- One writes a cell that the other reads or writes.
pub data Clash {C : Type 0} (a b : Footprint C) : Type 0 where
  writes_first : (c : C) → In c a.writes → In c (b.reads ++ b.writes) → Clash a b
  writes_second : (c : C) → In c (a.reads ++ a.writes) → In c b.writes → Clash a b

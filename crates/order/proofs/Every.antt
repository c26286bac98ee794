-- The cells of one kind: what is among them, and what a function of all their values comes to. By induction on their number. Assumes nothing.
use mathlib.Core.Path.{◌≡◌, refl, ap}
use mathlib.Core.Logic.{◌⊎◌, inl, inr}
use mathlib.Core.List.{List, [], ◌∷◌, ◌++◌}
use Prim.Native.Nat.{ℕ, zero, suc, ◌<◌}
use native.Mathlib.Omega.{arith}
use native.Mathlib.Decide.{ℕ_discrete}
use Rattle.order.specs.Cells.{Store, Fn, feed}
use Rattle.order.specs.Clash.{In, here, there}
use Rattle.order.specs.Every.{every, gather, collect}

module _ (𝒮 : Store) where
  open 𝒮 use {Cell, Val, M, get}

  module _ (cell : ℕ → Cell) (rest : List Cell) where
    -- A cell of the kind is among them, and so is one of the rest.
    pub in_every : (k i : ℕ) → i < k → In (cell i) (every 𝒮 cell k rest)
    unfolding every
    in_every zero i h = absurd (omega arith)
    in_every (suc k) i h = go (ℕ_discrete i k) (in_every k i)
      where
        go : Dec (i ≡ k) → (i < k → In (cell i) (every 𝒮 cell k rest)) → In (cell i) (every 𝒮 cell (suc k) rest)
        go (yes e) lower = here (ap cell e)
        go (no other) lower = there (lower (omega (arith, other)))

    pub in_rest : {c : Cell} (k : ℕ) → In c rest → In c (every 𝒮 cell k rest)
    unfolding every
    in_rest zero i = i
    in_rest (suc k) i = there (in_rest k i)

    -- There is no other.
    pub every_in : {c : Cell} (k : ℕ) → In c (every 𝒮 cell k rest) → ((i : ℕ) × (i < k) × (c ≡ cell i)) ⊎ In c rest
    unfolding every
    every_in zero i = inr i
    every_in (suc k) (here e) = inl (k, omega arith, e)
    every_in (suc k) (there i) = go (every_in k i)
      where
        go : {c : Cell} → ((i : ℕ) × (i < k) × (c ≡ cell i)) ⊎ In c rest → ((i : ℕ) × (i < suc k) × (c ≡ cell i)) ⊎ In c rest
        go (inl (j, h, e)) = inl (j, omega arith, e)
        go (inr i) = inr i

  -- A machine's values of the kind, the first one first.
  unfoldable pub values : {Y : Type 0} (cell : ℕ → Cell) (value : (i : ℕ) → Val (cell i) → Y) → M → ℕ → List Y
  values cell value m zero = []
  values cell value m (suc k) = values cell value m k ++ (value k (get (cell k) m) ∷ [])

  -- A function of the list is fed the machine's.
  pub feed_gather : (X : Type 0) {Y : Type 0} (cell : ℕ → Cell) (value : (i : ℕ) → Val (cell i) → Y) (k : ℕ) (rest more : List Cell)
      (f : List Y → Fn 𝒮 (rest ++ more) X) (m : M)
      → feed 𝒮 (every 𝒮 cell k rest ++ more) (gather 𝒮 X cell value k rest more f) m ≡ feed 𝒮 (rest ++ more) (f (values cell value m k)) m
  unfolding every gather values
  feed_gather X cell value zero rest more f m = refl
  feed_gather X cell value (suc k) rest more f m =
      feed_gather X cell value k rest more (λ vs. f (vs ++ (value k (get (cell k) m) ∷ []))) m

  -- So is one where no more cells follow.
  pub feed_collect : (X : Type 0) {Y : Type 0} (cell : ℕ → Cell) (value : (i : ℕ) → Val (cell i) → Y) (k : ℕ) (rest : List Cell)
      (f : List Y → Fn 𝒮 rest X) (m : M)
      → feed 𝒮 (every 𝒮 cell k rest) (collect 𝒮 X cell value k rest f) m ≡ feed 𝒮 rest (f (values cell value m k)) m
  unfolding every collect values
  feed_collect X cell value zero rest f m = refl
  feed_collect X cell value (suc k) rest f m =
      feed_collect X cell value k rest (λ vs. f (vs ++ (value k (get (cell k) m) ∷ []))) m

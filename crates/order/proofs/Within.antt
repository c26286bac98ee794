-- What is in a list of cells. Assumes nothing.
use mathlib.Core.Path.{◌≡◌}
use mathlib.Core.Logic.{◌≢◌}
use mathlib.Core.List.{List, [], ◌∷◌, ◌++◌}
use Rattle.order.specs.Clash.{In, here, there}

module _ {C : Type 0} where
  pub not_nil : {c : C} → In c [] → ⊥
  not_nil h = elim h [ ]

  not_cons : {c d : C} {cs : List C} → c ≢ d → ¬ (In c cs) → ¬ (In c (d ∷ cs))
  not_cons other h (here e) = other e
  not_cons other h (there i) = h i

  pub tail : {c d : C} {cs : List C} → In c (d ∷ cs) → c ≢ d → In c cs
  tail (here e) other = absurd (other e)
  tail (there i) other = i

  pub in? : Discrete C → (c : C) (cs : List C) → Dec (In c cs)
  in? eq c [] = no not_nil
  in? eq c (d ∷ cs) = go (eq c d) (in? eq c cs)
    where
      go : Dec (c ≡ d) → Dec (In c cs) → Dec (In c (d ∷ cs))
      go (yes e) q = yes (here e)
      go (no n) (yes h) = yes (there h)
      go (no n) (no h) = no (not_cons n h)

  pub in_right : {c : C} (xs : List C) {ys : List C} → In c ys → In c (xs ++ ys)
  in_right [] h = h
  in_right (x ∷ xs) h = there (in_right xs h)

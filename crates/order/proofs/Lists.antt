-- A list that is rewritten from the front, one element after the other. Assumes nothing.
use mathlib.Core.Path.{◌≡◌, sym, ap, ◌∙◌}
use mathlib.Core.List.{List, ◌++◌, append-nil}
use Prim.Native.Nat.{ℕ, suc, ◌≤◌, ◌<◌}
use native.Mathlib.Omega.{arith}
use lib.ListN.{length, take, drop, get_or, set, drop_of_length-le}
use lib.Seq.{take-suc, take_all, drop-cons, set_at, append_snoc, length-take-le}

module _ {A : Type 0} (none : A) (new old : List A) (k : ℕ) where
  -- One element more of the new list in front of what is left of the old one.
  pub set_next : k < length new → k < length old
      → set (take k new ++ drop k old) k (get_or new k none) ≡ take (suc k) new ++ drop (suc k) old
  set_next h g =
      ap (λ (rest : List A). set (take k new ++ rest) k (get_or new k none)) (drop-cons old k none g)
      ∙ set_at (take k new) (get_or old k none) (drop (suc k) old) (get_or new k none) k (length-take-le k new (omega arith))
      ∙ sym (append_snoc (take k new) (get_or new k none) (drop (suc k) old))
      ∙ ap (λ (front : List A). front ++ drop (suc k) old) (sym (take-suc new k none h))

  -- All of the new list, and nothing left of the old one.
  pub set_all : length new ≡ k → length old ≡ k → take k new ++ drop k old ≡ new
  set_all e g =
      let short : length old ≤ k = omega arith in
      ap (λ (rest : List A). take k new ++ rest) (drop_of_length-le old short) ∙ append-nil (take k new) ∙ take_all k new (omega arith)

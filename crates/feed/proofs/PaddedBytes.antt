-- A list with zeros past its end, byte by byte: it has the list's bytes in its places, and no other list of its length has. Assumes nothing.
use mathlib.Core.Path.{◌≡◌, ap, sym, ◌∙◌}
use mathlib.Core.Logic.{⊎_elim}
use mathlib.Core.List.{List, ◌++◌}
use Prim.Native.Nat.{ℕ, ◌+◌, ◌-◌, ◌<◌}
use native.Mathlib.Omega.{arith}
use lib.ListN.{length, get_or, replicate, get_or-replicate, get_or-append, get_or-eq_default}
use lib.Seq.{get_or-take, get_or-append-add, ext_get_or}
use Rattle.words.proofs.Choice.{below_or}
use Rattle.feed.specs.Feed.{padded}
use Rattle.feed.proofs.Bytes.{padded_length}

module _ (n : ℕ) (bs : List ℕ) where
  padded_byte : (i : ℕ) → i < n → get_or (padded n bs) i 0 ≡ get_or bs i 0
  padded_byte i h =
      get_or-take n (bs ++ replicate n 0) i 0 h
      ∙ ⊎_elim (λ b. get_or-append bs (replicate n 0) 0 i b)
      (λ b.
      let place : i ≡ length bs + (i - length bs) = omega arith in
      ap (λ k. get_or (bs ++ replicate n 0) k 0) place ∙ get_or-append-add bs (replicate n 0) (i - length bs) 0
      ∙ get_or-replicate n (i - length bs) 0 0 (omega arith) ∙ sym (get_or-eq_default bs 0 b))
      (below_or i (length bs))

  -- All n bytes are in their places.
  pub all_padded : (to : List ℕ) → length to ≡ n → ((k : ℕ) → k < n → get_or to k 0 ≡ get_or bs k 0) → to ≡ padded n bs
  all_padded to size each =
      ext_get_or 0 to (padded n bs) (size ∙ sym (padded_length n bs))
      (λ i h. let inside : i < n = omega arith in each i inside ∙ sym (padded_byte i inside))

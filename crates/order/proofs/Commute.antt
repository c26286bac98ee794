-- Two operations of which neither writes a cell that the other reads or writes may be swapped, on any store of cells. Assumes the laws of a
-- store.
use mathlib.Core.Path.{◌≡◌, refl, ap, sym, ◌∙◌}
use mathlib.Core.Logic.{◌≢◌}
use mathlib.Core.List.{List, [], ◌∷◌, ◌++◌}
use Rattle.order.specs.Outcome.{Outcome, refuse, accept, answer_of}
use Rattle.order.specs.Cells.{Store, Op, Vals, Fn, feed, store, result, commit, after, reply}
use Rattle.order.specs.Clash.{In, here, there, Clash, writes_first, writes_second, cells_of}
use Rattle.order.proofs.Within.{not_nil, tail, in?, in_right}
use Rattle.order.proofs.Sequence.{Swap}

-- What never changes, and what one cell's new value does to the others and to itself.
pub record Laws (𝒮 : Store) (Shape : Type 0) (shape : 𝒮.M → Shape) : Type 0 where
  pub same_cell : Discrete 𝒮.Cell
  pub put_shape : (c : 𝒮.Cell) (v : 𝒮.Val c) (m : 𝒮.M) → shape (𝒮.put c v m) ≡ shape m
  pub get_other : (c b : 𝒮.Cell) (v : 𝒮.Val b) (m : 𝒮.M) → c ≢ b → 𝒮.get c (𝒮.put b v m) ≡ 𝒮.get c m
  pub get_same : (c : 𝒮.Cell) (v : 𝒮.Val c) (m n : 𝒮.M) → shape m ≡ shape n → 𝒮.get c (𝒮.put c v m) ≡ 𝒮.get c (𝒮.put c v n)
  pub equal : (m n : 𝒮.M) → shape m ≡ shape n → ((c : 𝒮.Cell) → 𝒮.get c m ≡ 𝒮.get c n) → m ≡ n

module _ (𝒮 : Store) (A Shape : Type 0) (shape : 𝒮.M → Shape) (ℒ : Laws 𝒮 Shape shape) where
  open 𝒮 use {Cell, Val, M, get, put}
  open ℒ use {same_cell, put_shape, get_other, get_same, equal}

  feed_agree : {X : Type 0} (cs : List Cell) (f : Fn 𝒮 cs X) (m n : M) → ((c : Cell) → In c cs → get c m ≡ get c n)
      → feed 𝒮 cs f m ≡ feed 𝒮 cs f n
  feed_agree [] f m n h = refl
  feed_agree (c ∷ cs) f m n h = rw (h c (here refl)) (feed_agree cs (f (get c n)) m n (λ d i. h d (there i)))

  store_shape : (cs : List Cell) (vs : Vals 𝒮 cs) (m : M) → shape (store 𝒮 cs vs m) ≡ shape m
  store_shape [] vs m = refl
  store_shape (c ∷ cs) vs m = put_shape c vs.0 (store 𝒮 cs vs.1 m) ∙ store_shape cs vs.1 m

  commit_shape : (cs : List Cell) (o : Outcome A (Vals 𝒮 cs)) (m : M) → shape (commit 𝒮 A cs o m) ≡ shape m
  commit_shape cs (refuse a) m = refl
  commit_shape cs (accept a vs) m = store_shape cs vs m

  pub after_shape : (o : Op 𝒮 A) (m : M) → shape (after 𝒮 A m o) ≡ shape m
  after_shape o m = commit_shape o.writes (result 𝒮 A o m) m

  store_other : (c : Cell) (cs : List Cell) (vs : Vals 𝒮 cs) (m : M) → ¬ (In c cs) → get c (store 𝒮 cs vs m) ≡ get c m
  store_other c [] vs m out = refl
  store_other c (d ∷ cs) vs m out =
      get_other c d vs.0 (store 𝒮 cs vs.1 m) (λ e. out (here e)) ∙ store_other c cs vs.1 m (λ i. out (there i))

  commit_other : (c : Cell) (cs : List Cell) (o : Outcome A (Vals 𝒮 cs)) (m : M) → ¬ (In c cs) → get c (commit 𝒮 A cs o m) ≡ get c m
  commit_other c cs (refuse a) m out = refl
  commit_other c cs (accept a vs) m out = store_other c cs vs m out

  -- A cell that an operation does not write is as it was.
  pub after_other : (c : Cell) (o : Op 𝒮 A) (m : M) → ¬ (In c o.writes) → get c (after 𝒮 A m o) ≡ get c m
  after_other c o m out = commit_other c o.writes (result 𝒮 A o m) m out

  store_same : (c : Cell) (cs : List Cell) (vs : Vals 𝒮 cs) (m n : M) → shape m ≡ shape n → In c cs
      → get c (store 𝒮 cs vs m) ≡ get c (store 𝒮 cs vs n)
  store_same c [] vs m n s i = absurd (not_nil i)
  store_same c (d ∷ cs) vs m n s i = go (same_cell c d) i (store_same c cs vs.1 m n s)
    where
      shapes : shape (store 𝒮 cs vs.1 m) ≡ shape (store 𝒮 cs vs.1 n)
      shapes = store_shape cs vs.1 m ∙ s ∙ sym (store_shape cs vs.1 n)

      go : Dec (c ≡ d) → In c (d ∷ cs) → (In c cs → get c (store 𝒮 cs vs.1 m) ≡ get c (store 𝒮 cs vs.1 n))
          → get c (store 𝒮 (d ∷ cs) vs m) ≡ get c (store 𝒮 (d ∷ cs) vs n)
      go (yes e) i later = rw e (get_same d vs.0 _ _ shapes)
      go (no other) i later = get_other c d vs.0 _ other ∙ later (tail i other) ∙ sym (get_other c d vs.0 _ other)

  commit_same : (c : Cell) (cs : List Cell) (o : Outcome A (Vals 𝒮 cs)) (m n : M) → shape m ≡ shape n → In c cs → get c m ≡ get c n
      → get c (commit 𝒮 A cs o m) ≡ get c (commit 𝒮 A cs o n)
  commit_same c cs (refuse a) m n s i e = e
  commit_same c cs (accept a vs) m n s i e = store_same c cs vs m n s i

  -- No cell that b writes is read or written by a.
  abbrev pub Unseen : Op 𝒮 A → Op 𝒮 A → Type 0
  Unseen b a = (c : Cell) → In c b.writes → In c (a.reads ++ a.writes) → ⊥

  -- Then a comes to the same before and after b.
  unseen_result : (a b : Op 𝒮 A) (m : M) → Unseen b a → result 𝒮 A a (after 𝒮 A m b) ≡ result 𝒮 A a m
  unseen_result a b m unseen =
      feed_agree (a.reads ++ a.writes) a.body (after 𝒮 A m b) m (λ c i. after_other c b m (λ j. unseen c j i))

  written : (a b : Op 𝒮 A) (m : M) → Unseen b a → (c : Cell) → In c a.writes
      → get c (after 𝒮 A (after 𝒮 A m a) b) ≡ get c (after 𝒮 A (after 𝒮 A m b) a)
  written a b m unseen c i =
      let out : ¬ (In c b.writes) = λ j. unseen c j (in_right a.reads i) in
      after_other c b (after 𝒮 A m a) out
      ∙ commit_same c a.writes (result 𝒮 A a m) m (after 𝒮 A m b) (sym (after_shape b m)) i (sym (after_other c b m out))
      ∙ ap (λ o. get c (commit 𝒮 A a.writes o (after 𝒮 A m b))) (sym (unseen_result a b m unseen))

  -- Two operations that see nothing of each other may be swapped.
  pub swap : (m : M) (a b : Op 𝒮 A) → Unseen b a → Unseen a b → Swap (after 𝒮 A) (reply 𝒮 A) m a b
  swap m a b unseen-b unseen-a =
      record {
        state = equal _ _
            (after_shape b (after 𝒮 A m a) ∙ after_shape a m ∙ sym (after_shape a (after 𝒮 A m b) ∙ after_shape b m))
            (λ c. cells c (in? same_cell c a.writes) (in? same_cell c b.writes));
        first = ap answer_of (unseen_result a b m unseen-b);
        second = ap answer_of (unseen_result b a m unseen-a);
      }
    where
      cells : (c : Cell) → Dec (In c a.writes) → Dec (In c b.writes)
          → get c (after 𝒮 A (after 𝒮 A m a) b) ≡ get c (after 𝒮 A (after 𝒮 A m b) a)
      cells c (yes i) j = written a b m unseen-b c i
      cells c (no i) (yes j) = sym (written b a m unseen-a c j)
      cells c (no i) (no j) =
          after_other c b (after 𝒮 A m a) j ∙ after_other c a m i ∙ sym (after_other c a (after 𝒮 A m b) i ∙ after_other c b m j)

  -- Two operations that do not clash may be swapped.
  pub clash_free : (m : M) (a b : Op 𝒮 A) → ¬ (Clash (cells_of b) (cells_of a)) → Swap (after 𝒮 A) (reply 𝒮 A) m a b
  clash_free m a b free = swap m a b (λ c i j. free (writes_first c i j)) (λ c i j. free (writes_second c j i))

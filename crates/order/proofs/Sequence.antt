-- A sequence of requests, rearranged: for any machine on which two requests whose order need not be kept may be swapped. Assumes nothing.
use mathlib.Core.Path.{◌≡◌, refl, ap, sym, ◌∙◌}
use Prim.Native.Nat.{ℕ, zero, suc, ◌<◌}
use native.Mathlib.Omega.{arith}
use Rattle.order.specs.Reordered.{Reordered}
use Rattle.order.proofs.Positions.{skip, skip_order, rest, skip_rest, rest_permutes, onto}

module _ {M R A : Type 0} (next : M → R → M) (ans : M → R → A) where
  -- The machine after the first k requests, and the answer to request k.
  abbrev pub end : M → (ℕ → R) → ℕ → M
  end m f zero = m
  end m f (suc k) = end (next m (f 0)) (λ i. f (suc i)) k

  abbrev pub answer : M → (ℕ → R) → ℕ → A
  answer m f k = ans (end m f k) (f k)

  -- The last request comes last.
  pub end_last : (k : ℕ) (m : M) (f : ℕ → R) → end m f (suc k) ≡ next (end m f k) (f k)
  end_last zero m f = refl
  end_last (suc k) m f = end_last k (next m (f 0)) (λ i. f (suc i))

  -- Two requests may be swapped: the machine is the same, and so is the answer of each.
  pub record Swap (m : M) (a b : R) : Type 0 where
    pub state : next (next m a) b ≡ next (next m b) a
    pub first : ans (next m b) a ≡ ans m a
    pub second : ans (next m a) b ≡ ans m b

  -- Two orders come to the same.
  pub record Same (n : ℕ) (m : M) (old new : ℕ → R) (π : ℕ → ℕ) : Type 0 where
    pub state : end m new n ≡ end m old n
    pub each : (k : ℕ) → k < n → answer m new k ≡ answer m old (π k)

  -- Request p may come first.
  record Pulled (m : M) (f : ℕ → R) (p n : ℕ) : Type 0 where
    state : end m f (suc n) ≡ end (next m (f p)) (λ i. f (skip p i)) n
    own : answer m f p ≡ ans m (f p)
    others : (i : ℕ) → answer m f (skip p i) ≡ answer (next m (f p)) (λ j. f (skip p j)) i

  module _ (Inv : M → Type 0) (keep : (m : M) (r : R) → Inv m → Inv (next m r)) (Keep : R → R → Type 0)
      (swap : (m : M) (a b : R) → Inv m → ¬ (Keep b a) → Swap m a b) where
    pull : (p n : ℕ) → p < suc n → (m : M) → Inv m → (f : ℕ → R) → ((i : ℕ) → i < p → ¬ (Keep (f p) (f i))) → Pulled m f p n
    pull zero n b m inv f free = record { state = refl; own = refl; others = λ i. refl }
    pull (suc p) zero b m inv f free = absurd (omega arith)
    pull (suc p) (suc n) b m inv f free =
        let later : Pulled (next m (f 0)) (λ i. f (suc i)) p n =
        pull p n (omega arith) (next m (f 0)) (keep m (f 0) inv) (λ i. f (suc i)) (λ i h. free (suc i) (omega arith)) in
        let swapped : Swap m (f 0) (f (suc p)) = swap m (f 0) (f (suc p)) inv (free 0 (omega arith)) in
        record {
          state = later.state ∙ ap (λ x. end x (λ i. f (suc (skip p i))) n) swapped.state;
          own = later.own ∙ swapped.second;
          others = λ i. elim i as (λ k. answer m f (skip (suc p) k) ≡ answer (next m (f (suc p))) (λ j. f (skip (suc p) j)) k) [
            | zero ↦ sym swapped.first
            | suc j ↦ later.others j ∙ ap (λ x. answer x (λ k. f (suc (skip p k))) j) swapped.state
          ];
        }

    -- Nothing before the first new request must stay before it.
    first_free : (n : ℕ) (old new : ℕ → R) (π : ℕ → ℕ) → Reordered Keep (suc n) old new π → (i : ℕ) → i < π 0 → ¬ (Keep (old (π 0)) (old i))
    first_free n old new π r i h c = go (onto (suc n) π r.permutes i (omega (arith, inside)))
      where
        inside : π 0 < suc n
        inside = r.permutes.below 0 (omega arith)

        go : (k : ℕ) × (k < suc n) × (π k ≡ i) → ⊥
        go (zero, b, q) = omega arith
        go (suc k, b, q) =
            let z : π 0 < π (suc k) = r.kept 0 (suc k) (omega arith) b (rw (r.moved 0 (omega arith), r.moved (suc k) b, q) c) in omega arith

    rest_reordered : (n : ℕ) (old new : ℕ → R) (π : ℕ → ℕ) → Reordered Keep (suc n) old new π
        → Reordered Keep n (λ i. old (skip (π 0) i)) (λ i. new (suc i)) (rest π)
    rest_reordered n old new π r =
        record {
          permutes = rest_permutes r.permutes;
          moved = λ k h. r.moved (suc k) (omega arith) ∙ ap old (sym (skip_rest r.permutes k h));
          kept = λ j k h g c. skip_order (π 0) (rest π j) (rest π k)
              (rw (skip_rest r.permutes j (omega arith), skip_rest r.permutes k g) (r.kept (suc j) (suc k) (omega arith) (omega arith) c));
        }

    -- The theorem for sequences.
    pub rearrange : (n : ℕ) (m : M) → Inv m → (old new : ℕ → R) (π : ℕ → ℕ) → Reordered Keep n old new π → Same n m old new π
    rearrange zero m inv old new π r = record { state = refl; each = λ k h. absurd (omega arith) }
    rearrange (suc n) m inv old new π r =
        let at : new 0 ≡ old (π 0) = r.moved 0 (omega arith) in
        let pulled : Pulled m old (π 0) n = pull (π 0) n (r.permutes.below 0 (omega arith)) m inv old (first_free n old new π r) in
        let later : Same n (next m (old (π 0))) (λ i. old (skip (π 0) i)) (λ i. new (suc i)) (rest π) =
        rearrange n (next m (old (π 0))) (keep m (old (π 0)) inv) (λ i. old (skip (π 0) i)) (λ i. new (suc i)) (rest π)
        (rest_reordered n old new π r) in
        record {
          state = ap (λ x. end (next m x) (λ i. new (suc i)) n) at ∙ later.state ∙ sym pulled.state;
          each = λ k. elim k as (λ i. i < suc n → answer m new i ≡ answer m old (π i)) [
            | zero ↦ λ h. ap (ans m) at ∙ sym pulled.own
            | suc j ↦ λ h.
                ap (λ x. answer (next m x) (λ i. new (suc i)) j) at ∙ later.each j (omega arith) ∙ sym (pulled.others (rest π j))
                ∙ ap (answer m old) (skip_rest r.permutes j (omega arith))
          ];
        }

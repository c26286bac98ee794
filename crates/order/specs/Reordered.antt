-- A sequence in another order. Position k of the new one has what position π k of the old one has.
use Rattle.std.specs.Prelude.{◌≡◌, ℕ, ◌<◌}

-- π is a permutation of the positions below n.
pub record Permutes (n : ℕ) (π : ℕ → ℕ) : Type 0 where
  pub below : (k : ℕ) → k < n → π k < n
  pub once : (j k : ℕ) → j < n → k < n → π j ≡ π k → j ≡ k

-- The new sequence is the old one rearranged by π, and two elements whose order is to be kept keep it.
pub record Reordered {R : Type 0} (Keep : R → R → Type 0) (n : ℕ) (old new : ℕ → R) (π : ℕ → ℕ) : Type 0 where
  pub permutes : Permutes n π
  pub moved : (k : ℕ) → k < n → new k ≡ old (π k)
  pub kept : (j k : ℕ) → j < k → k < n → Keep (new j) (new k) → π j < π k

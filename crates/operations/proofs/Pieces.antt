-- A log in two pieces. The records behind the first ones run as a log of their own, from the machine that the first ones left; and the first
-- ones do not depend on what is behind them. Assumes nothing.
use mathlib.Core.Path.{◌≡◌, refl, ap, ap₂, sym, ◌∙◌}
use mathlib.Core.List.{List, ◌++◌}
use Prim.Native.Nat.{ℕ, zero, suc, ◌+◌, ◌*◌, ◌≤◌}
use native.Mathlib.Nat.{add-suc, add-zero, add-mul}
use native.Mathlib.Omega.{arith}
use lib.ListN.{length, take, drop, length-drop, take-append-drop}
use lib.Seq.{length-take-le, take-append-le, drop-append-le, drop-append_seam, drop-drop}
use Rattle.machine.specs.declared.Machine.{Machine}
use Rattle.operations.specs.Asked.{answered, next}
use Rattle.operations.specs.Log.{record_at, state_at, answer_at}

-- The first k records are those of any log that goes on behind them.
module _ (m : Machine) (xs ys : List ℕ) where
  record_front : (k : ℕ) → k * 12 + 12 ≤ length xs → record_at (xs ++ ys) k ≡ record_at xs k
  record_front k long =
      ap (take 12) (drop-append-le (k * 12) xs ys (omega arith))
      ∙ take-append-le 12 (drop (k * 12) xs) ys (omega (arith, length-drop (k * 12) xs))

  pub state_front : (k : ℕ) → k * 12 ≤ length xs → state_at m (xs ++ ys) k ≡ state_at m xs k
  unfolding state_at
  state_front zero long = refl
  state_front (suc k) long = ap₂ next (state_front k (omega arith)) (record_front k (omega arith))

  pub answer_front : (k : ℕ) → k * 12 + 12 ≤ length xs → answer_at m (xs ++ ys) k ≡ answer_at m xs k
  answer_front k long = ap₂ answered (state_front k (omega arith)) (record_front k long)

-- So the first k records may as well be the whole log.
pub whole_of : {A : Type 0} (of : List ℕ → A) (log : List ℕ) (k : ℕ) → k * 12 ≤ length log
    → ((xs ys : List ℕ) → k * 12 ≤ length xs → of (xs ++ ys) ≡ of xs) → of log ≡ of (take (k * 12) log)
whole_of of log k long front =
    ap of (sym (take-append-drop (k * 12) log))
    ∙ front (take (k * 12) log) (drop (k * 12) log) (omega (arith, length-take-le (k * 12) log long))

pub state_alone : (m : Machine) (log : List ℕ) (k : ℕ) → k * 12 ≤ length log → state_at m log k ≡ state_at m (take (k * 12) log) k
state_alone m log k long = whole_of (λ l. state_at m l k) log k long (λ xs ys. state_front m xs ys k)

-- Behind a whole records.
module _ (m : Machine) (xs ys : List ℕ) (a : ℕ) (whole : length xs ≡ a * 12) where
  record_behind : (k : ℕ) → record_at (xs ++ ys) (a + k) ≡ record_at ys k
  record_behind k =
      ap (λ n. take 12 (drop n (xs ++ ys))) (add-mul a k 12)
      ∙ ap (take 12) (sym (drop-drop (k * 12) (a * 12) (xs ++ ys)))
      ∙ ap (λ n. take 12 (drop (k * 12) (drop n (xs ++ ys)))) (sym whole)
      ∙ ap (λ l. take 12 (drop (k * 12) l)) (drop-append_seam xs ys)

  pub state_pieces : (k : ℕ) → state_at m (xs ++ ys) (a + k) ≡ state_at (state_at m xs a) ys k
  unfolding state_at
  state_pieces zero = ap (state_at m (xs ++ ys)) (add-zero a) ∙ state_front m xs ys a (omega (arith, whole))
  state_pieces (suc k) = ap (state_at m (xs ++ ys)) (add-suc a k) ∙ ap₂ next (state_pieces k) (record_behind k)

  pub answer_pieces : (k : ℕ) → answer_at m (xs ++ ys) (a + k) ≡ answer_at (state_at m xs a) ys k
  answer_pieces k = ap₂ answered (state_pieces k) (record_behind k)

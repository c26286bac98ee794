-- A CPU's five bytes are the chunk at its place, and a byte that is neither 0 nor 1 at one place is enough to refuse all. Assumes nothing.
use mathlib.Core.Path.{◌≡◌, refl, sym, ap, ◌∙◌}
use mathlib.Core.Bool.{false, ◌&&◌, and-false}
use mathlib.Core.List.{List, []}
use mathlib.Core.Logic.{◌⊎◌, inl, inr}
use Prim.Native.Nat.{ℕ, zero, suc, ◌+◌, ◌*◌, ◌<◌}
use native.Mathlib.Nat.{not-suc-le-zero, add-zero}
use native.Mathlib.Omega.{arith}
use lib.Dec.{leb}
use lib.ListN.{get_or, take, drop}
use Rattle.std.specs.Simd.{first_chunks}
use Rattle.std.proofs.lemmas.List.{drop-drop, get_or-take, get_or-drop}
use Rattle.words.proofs.Choice.{same_or}
use Rattle.cpu_bytes.specs.Cpus.{byte_at, cpu_of_bytes, active_bytes}

-- The bytes from a place on.
abbrev pub five_at : List ℕ → ℕ → List ℕ
five_at bs at = take 5 (drop at bs)

pub chunk_is : (num : ℕ) (bs : List ℕ) (i : ℕ) → i < num → get_or (first_chunks 5 num bs) i [] ≡ five_at bs (5 * i)
chunk_is zero bs i h = absurd (not-suc-le-zero h)
chunk_is (suc num) bs zero h = refl
chunk_is (suc num) bs (suc i) h =
    let next : 5 + 5 * i ≡ 5 * suc i = omega arith in
    chunk_is num (drop 5 bs) i (omega arith) ∙ ap (take 5) (drop-drop (5 * i) 5 bs ∙ ap (λ (k : ℕ). drop k bs) next)

module _ (bs : List ℕ) (at : ℕ) where
  byte_is : (j : ℕ) → j < 5 → byte_at (five_at bs at) j ≡ byte_at bs (at + j)
  byte_is j h = get_or-take 5 (drop at bs) j 0 h ∙ get_or-drop at bs j 0

  pub active_is : byte_at (five_at bs at) 0 ≡ byte_at bs at
  active_is = byte_is 0 (omega arith) ∙ ap (byte_at bs) (add-zero at)

  pub cpu_is : cpu_of_bytes (five_at bs at) 0 ≡ cpu_of_bytes bs at
  cpu_is = rw (active_is, byte_is 1 (omega arith), byte_is 2 (omega arith), byte_is 3 (omega arith), byte_is 4 (omega arith))

-- One CPU whose active byte is neither 0 nor 1.
pub one_refused : (bs : List ℕ) (num i : ℕ) → i < num → leb (byte_at bs (5 * i)) 1 ≡ false → active_bytes bs num ≡ false
unfolding active_bytes
one_refused bs zero i h bad = absurd (not-suc-le-zero h)
one_refused bs (suc num) i h bad = by (same_or i num) (λ before. one_refused bs num i before bad)
  where
    by : (i ≡ num) ⊎ (i ≡ num → ⊥) → (i < num → active_bytes bs num ≡ false) → active_bytes bs num && leb (byte_at bs (5 * num)) 1 ≡ false
    by (inl last) _ = rw (ap (λ (k : ℕ). leb (byte_at bs (5 * k)) 1) (sym last) ∙ bad) (and-false (active_bytes bs num))
    by (inr other) refused = rw (refused (omega arith))

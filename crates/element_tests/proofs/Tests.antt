-- Chains of tests, as the code goes through them one conjunct after the other, and the test of equal signed numbers as a fact. Assumes nothing.
use mathlib.Core.Path.{◌≡◌, sym, ap}
use mathlib.Core.Bool.{Bool, true, false, ◌&&◌, not}
use Prim.Native.Nat.{ℕ}
use native.Mathlib.Nat.{le_refl}
use native.Mathlib.Omega.{arith}
use lib.Dec.{ltb}
use lib.IntN.{ℤ, pos, negsuc}
use borrow.Author.Tests.{ltb-false, le-ltb, not-true}
use Rattle.words.proofs.Choice.{and_left, and_right}
use Rattle.element_tests.specs.Elements.{eq_z}

-- A conjunct that holds leaves the rest to decide.
pub passed : {a b r : Bool} → a ≡ true → r ≡ b → r ≡ (a && b)
passed h e = rw h e

-- One that fails decides.
pub failed : {a : Bool} (b : Bool) → a ≡ false → false ≡ (a && b)
failed b h = rw h

-- Signed numbers that the tests call equal are equal, and back.
pub same_signed : (a b : ℤ) → eq_z a b ≡ true → a ≡ b
same_signed (pos a) (pos b) e =
    let most = ltb-false a b (not-true (ltb a b) (and_left (not (ltb a b)) _ e)) in
    let least = ltb-false b a (not-true (ltb b a) (and_right (not (ltb a b)) _ e)) in
    ap pos (omega arith)
same_signed (pos a) (negsuc b) e = let o : ◌≡◌ {A = ℕ} 0 1 = cc in absurd (omega arith)
same_signed (negsuc a) (pos b) e = let o : ◌≡◌ {A = ℕ} 0 1 = cc in absurd (omega arith)
same_signed (negsuc a) (negsuc b) e =
    let most = ltb-false b a (not-true (ltb b a) (and_left (not (ltb b a)) _ e)) in
    let least = ltb-false a b (not-true (ltb a b) (and_right (not (ltb b a)) _ e)) in
    ap negsuc (omega arith)

not_below_itself : (a : ℤ) → eq_z a a ≡ true
not_below_itself (pos a) = rw (le-ltb a a (le_refl a))
not_below_itself (negsuc a) = rw (le-ltb a a (le_refl a))

pub signed_same : {a b : ℤ} → a ≡ b → eq_z a b ≡ true
signed_same {a} e = rw (sym e) (not_below_itself a)

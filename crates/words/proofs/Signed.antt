-- Two's complement and back, over the width. Assumes nothing.
use mathlib.Core.Path.{◌≡◌, refl, ap}
use mathlib.Core.Logic.{◌⊎◌, inl, inr}
use Prim.Native.Nat.{ℕ, suc, ◌-◌, ◌^◌, ◌≤◌, ◌<◌}
use native.Mathlib.Nat.{pow-succ'}
use native.Mathlib.Omega.{arith}
use lib.IntN.{ℤ, pos, negsuc}
use lib.Pow.{pow_pos}
use borrow.Author.Tests.{lt-ltb, le-ltb}
use Rattle.words.specs.Signed.{to_signed, from_signed, SignedFits}
use Rattle.words.proofs.Choice.{below_or}

pub from_signed_lt : (w : ℕ) (z : ℤ) → SignedFits w z → from_signed w z < 2 ^ suc w
unfolding from_signed
from_signed_lt w (pos n) h = omega (arith, pow-succ' 2 w)
from_signed_lt w (negsuc n) h = omega (arith, pow-succ' 2 w, pow_pos w)

-- A signed number that fits comes back from its bits.
pub to_from_signed : (w : ℕ) (z : ℤ) → SignedFits w z → to_signed w (from_signed w z) ≡ z
unfolding to_signed from_signed
to_from_signed w (pos n) h = rw (lt-ltb n (2 ^ w) h)
to_from_signed w (negsuc n) h =
    let p = pow-succ' 2 w in
    rw (le-ltb (2 ^ suc w - 1 - n) (2 ^ w) (omega (arith, p))) (ap negsuc (omega (arith, p)))

-- Bits come back from the signed number that they stand for, and that number fits.
pub from_to_signed : (w n : ℕ) → n < 2 ^ suc w → (from_signed w (to_signed w n) ≡ n) × SignedFits w (to_signed w n)
unfolding to_signed from_signed
from_to_signed w n h = go (below_or n (2 ^ w))
  where
    go : (n < 2 ^ w) ⊎ (2 ^ w ≤ n) → (from_signed w (to_signed w n) ≡ n) × SignedFits w (to_signed w n)
    go (inl l) = rw (lt-ltb n (2 ^ w) l) (refl, l)
    go (inr l) = let p = pow-succ' 2 w in rw (le-ltb n (2 ^ w) l) (omega (arith, p), omega (arith, p))

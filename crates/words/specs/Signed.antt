-- Two's complement at w + 1 bits: the numbers below 2 ^ w are themselves, those from there on stand for the negative ones.
use Rattle.std.specs.Prelude.{ℕ, suc, ◌-◌, ◌^◌, ◌<◌, cond, ltb, ℤ, pos, negsuc}

-- The signed number that w + 1 bits stand for.
unfoldable pub to_signed : ℕ → ℕ → ℤ
to_signed w n = cond (ltb n (2 ^ w)) (pos n) (negsuc (2 ^ suc w - 1 - n))

-- The w + 1 bits that stand for a signed number.
unfoldable pub from_signed : ℕ → ℤ → ℕ
from_signed w (pos n) = n
from_signed w (negsuc n) = 2 ^ suc w - 1 - n

-- A signed number that w + 1 bits can hold.
abbrev pub SignedFits : ℕ → ℤ → Type 0
SignedFits w (pos n) = n < 2 ^ w
SignedFits w (negsuc n) = n < 2 ^ w

-- The bits of a number, counted from 0 at the low end.
use Rattle.std.specs.Prelude.{ℕ, zero, suc, ◌+◌, ◌-◌, ◌/◌, ◌%◌, ◌^◌, Bool, false, ◌||◌, cond, eqb}

-- Bit i of n is set: what is left of n above its i low bits is odd.
unfoldable pub bit : ℕ → ℕ → Bool
bit i n = eqb (n / 2 ^ i % 2) 1

-- The w bits of n, each turned over.
abbrev pub bit_not : ℕ → ℕ → ℕ
bit_not w n = (2 ^ w - 1) - n

-- The number whose bits below k are those that f names, and that has no others.
unfoldable pub bits_of : (ℕ → Bool) → ℕ → ℕ
bits_of f zero = 0
bits_of f (suc k) = cond (f k) (2 ^ k) 0 + bits_of f k

-- n is 2 to the power of some number below w.
unfoldable pub power_below : ℕ → ℕ → Bool
power_below zero n = false
power_below (suc w) n = eqb n (2 ^ w) || power_below w n

-- Numbers as bytes, most significant byte first.
use Rattle.std.specs.Prelude.{ℕ, zero, suc, ◌+◌, ◌*◌, ◌/◌, ◌%◌, ◌^◌, List, [], ◌∷◌}

-- The k low bytes of n, high byte first.
abbrev pub high_first : ℕ → ℕ → List ℕ
high_first zero n = []
high_first (suc k) n = n / 2 ^ (8 * k) % 256 ∷ high_first k n

-- The number that bytes make, behind what has been read before them.
abbrev pub joined : ℕ → List ℕ → ℕ
joined before [] = before
joined before (b ∷ bs) = joined (before * 256 + b) bs

-- The number that bytes make, high byte first.
abbrev pub from_high_first : List ℕ → ℕ
from_high_first bs = joined 0 bs

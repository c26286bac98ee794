-- The two widths of a tag: either leaves room in a word of 64 bits for a thread. What holds of a tag is the law over its width
-- (words/proofs/Tags.antt). Assumes nothing.
use Prim.Native.Nat.{ℕ, ◌^◌, ◌≤◌, ◌<◌}
use native.Mathlib.Nat.{mod-lt, lt_of_lt_of_le}
use native.Mathlib.Omega.{arith}
use lib.Pow.{pow_pos}
use Rattle.words.specs.Tag.{word_of, cpu_of}
use Rattle.words.proofs.Tags.{Taggable, word_fits}
use Rattle.spinlock_validate.specs.Owner.{tag_bits, wide_tag_bits, width_bits}
use Rattle.spinlock_validate.specs.declared.Width.{Width}

-- A tag tells at most sixteen CPUs apart.
pub tags_most : (w : Width) → 2 ^ width_bits w ≤ 16
tags_most Width.Narrow = omega arith
tags_most Width.Wide = omega arith

-- So the CPU in a word is below sixteen.
pub cpu_below : (w : Width) (word : ℕ) → cpu_of (width_bits w) word < 16
cpu_below w word = lt_of_lt_of_le (mod-lt word (pow_pos (width_bits w))) (tags_most w)

-- A word made from a thread word of 64 bits has 64 bits.
pub word_fits_64 : (w : Width) (cpu thread : ℕ) → Taggable (width_bits w) cpu thread → thread < 2 ^ 64 → word_of cpu thread < 2 ^ 64
word_fits_64 Width.Narrow cpu thread t h = word_fits tag_bits cpu thread t 62 h
word_fits_64 Width.Wide cpu thread t h = word_fits wide_tag_bits cpu thread t 60 h

-- A word that carries a tag in its k low bits: the word of a thread, with the number of a CPU below 2 ^ k put into it.
use Rattle.std.specs.Prelude.{ℕ, ◌+◌, ◌-◌, ◌%◌, ◌^◌, Bool, ◌&&◌, not, eqb, ltb}

-- A CPU that the tag can hold, and a thread word that leaves room for it: nonzero and a multiple of 2 ^ k.
abbrev pub taggable : ℕ → ℕ → ℕ → Bool
taggable k cpu thread = ltb cpu (2 ^ k) && (not (eqb thread 0) && eqb (thread % 2 ^ k) 0)

-- The word that the two make.
abbrev pub word_of : ℕ → ℕ → ℕ
word_of cpu thread = thread + cpu

-- The CPU in a word.
abbrev pub cpu_of : ℕ → ℕ → ℕ
cpu_of k word = word % 2 ^ k

-- The thread word in a word: all but the tag.
abbrev pub thread_of : ℕ → ℕ → ℕ
thread_of k word = word - word % 2 ^ k

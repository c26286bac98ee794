-- What the test of a setup says: there are 1 to as many CPUs as its tags tell apart, and a slot for each. And back. Assumes nothing.
use mathlib.Core.Path.{◌≡◌}
use mathlib.Core.Bool.{true}
use Prim.Native.Nat.{ℕ, ◌+◌, ◌*◌, ◌^◌, ◌≤◌, ◌<◌}
use native.Mathlib.Nat.{le_trans, mul-le-mul_right}
use lib.Dec.{leb}
use borrow.Author.Tests.{leb-true, le-leb}
use Rattle.words.specs.Tag.{cpu_of}
use Rattle.words.proofs.Below.{both}
use Rattle.words.proofs.Choice.{and_left, and_right}
use Rattle.spinlock_validate.proofs.Widths.{tags_most, cpu_below}
use Rattle.machine.specs.State.{cpu_slots, width_of, tag_bits, thread_word, setup_ok}
use Rattle.machine.specs.declared.Setup.{Setup}

-- There is a slot for every CPU that a word can name.
pub named_in_slots : (s : Setup) (word : ℕ) → cpu_of (tag_bits s) word < cpu_slots
named_in_slots s word = cpu_below (width_of s) word

-- A thread's word is at most sixteen times as large as the thread's number and one more.
pub thread_word_most : (s : Setup) (t : ℕ) → thread_word s t ≤ 16 * (t + 1)
thread_word_most s t = mul-le-mul_right (t + 1) (tags_most (width_of s))

-- How many CPUs there are.
pub record Size (s : Setup) : Type 0 where
  pub some : 1 ≤ s.n
  pub tagged : s.n ≤ 2 ^ tag_bits s
  pub few : s.n ≤ cpu_slots

pub sized : (s : Setup) → 1 ≤ s.n → s.n ≤ 2 ^ tag_bits s → Size s
sized s some tagged = record { some = some; tagged = tagged; few = le_trans tagged (tags_most (width_of s)) }

pub size_says : (s : Setup) → setup_ok s ≡ true → Size s
size_says s e =
    sized s (leb-true 1 s.n (and_left (leb 1 s.n) _ e)) (leb-true s.n (2 ^ tag_bits s) (and_right (leb 1 s.n) _ e))

pub says_size : (s : Setup) → Size s → setup_ok s ≡ true
says_size s h = both (le-leb 1 s.n h.some) (le-leb s.n (2 ^ tag_bits s) h.tagged)

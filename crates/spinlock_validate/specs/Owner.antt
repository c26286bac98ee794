-- 01, "Owner word", and 02, request 4: which thread on which CPU holds a lock, in one word. The rules go by the width k of the tag; 4 CPUs take
-- 2 bits, and 16 take 4.
use Rattle.std.specs.Prelude.{ℕ, ◌^◌, Bool, false, ◌&&◌, not, cond, eqb, ltb, Option, None, Some, Result, Ok, Err}
use Rattle.error.specs.Codes.{OK, EINVAL, refusal_number}
use Rattle.error.specs.declared.Refusal.{Refusal}
use Rattle.error.specs.Answer.{Answer, answer}
use Rattle.words.specs.Tag.{taggable, word_of, cpu_of, thread_of}
use Rattle.spinlock_validate.specs.declared.Width.{Width}
use Rattle.spinlock_validate.specs.declared.Held.{Held}

-- 4 CPUs, numbered in the two low bits.
abbrev pub tag_bits : ℕ
tag_bits = 2

-- 16 CPUs, in the four low bits.
abbrev pub wide_tag_bits : ℕ
wide_tag_bits = 4

-- How many bits a tag has.
abbrev pub width_bits : Width → ℕ
width_bits Width.Narrow = tag_bits
width_bits Width.Wide = wide_tag_bits

-- The width that a flag asks for.
abbrev pub width_by : Bool → Width
width_by wide = cond wide Width.Wide Width.Narrow

-- Nobody, or a thread on a CPU.
pub data Holder : Type 0 where
  nobody : Holder
  held_by : ℕ → ℕ → Holder

-- A decoding's code and value: no holder for a free word, and none for a word that is refused.
abbrev pub decoded_says : Result (Option Held) Refusal → Answer Holder
decoded_says (Ok None) = answer OK nobody
decoded_says (Ok (Some held)) = answer OK (held_by held.thread held.cpu)
decoded_says (Err why) = answer (refusal_number why) nobody

-- CPU below 2 ^ k, thread word nonzero and a multiple of 2 ^ k, else EINVAL. Word = thread + CPU.
unfoldable pub spin_lock_compute_owner : ℕ → ℕ → ℕ → Answer ℕ
spin_lock_compute_owner k cpu thread = cond (taggable k cpu thread) (answer OK (word_of cpu thread)) (answer EINVAL 0)

-- 0 is free; below 2 ^ k EINVAL; else CPU = word mod 2 ^ k, thread = the rest.
unfoldable pub spin_lock_decode_owner : ℕ → ℕ → Answer Holder
spin_lock_decode_owner k word =
    cond (eqb word 0) (answer OK nobody)
    (cond (ltb word (2 ^ k)) (answer EINVAL nobody)
    (answer OK (held_by (thread_of k word) (cpu_of k word))))

-- CPU below 2 ^ k, else EINVAL. No exactly if the word is nonzero and word mod 2 ^ k equals the CPU.
unfoldable pub spin_lock_valid : ℕ → ℕ → ℕ → Answer Bool
spin_lock_valid k word cpu = cond (ltb cpu (2 ^ k)) (answer OK (not (not (eqb word 0) && eqb (cpu_of k word) cpu))) (answer EINVAL false)

-- CPU and thread as in making a word, else EINVAL. Yes exactly if the words are equal.
unfoldable pub spin_unlock_valid : ℕ → ℕ → ℕ → ℕ → Answer Bool
spin_unlock_valid k word cpu thread = cond (taggable k cpu thread) (answer OK (eqb word (word_of cpu thread))) (answer EINVAL false)

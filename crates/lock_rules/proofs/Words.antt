-- The owner word of a thread on a CPU that the machine has: the pair is a good one at the machine's width, so the word is the one that is made, and
-- who has another is elsewhere. Assumes nothing.
use Rattle.std.specs.Prelude.{Option, None, Some}
use Rattle.std.specs.Option.{is_some}
use mathlib.Core.Path.{◌≡◌, refl, sym}
use mathlib.Core.Bool.{true, not}
use Prim.Native.Nat.{ℕ, ◌^◌, ◌<◌}
use native.Mathlib.Nat.{lt_of_lt_of_le}
use lib.Dec.{eqb}
use borrow.Author.Tests.{ltb-true}
use Rattle.error.proofs.Answers.{same_value}
use Rattle.words.specs.Tag.{word_of}
use Rattle.words.proofs.Choice.{and_left, and_right}
use Rattle.words.proofs.Tags.{word_taggable, says_taggable}
use Rattle.spinlock_validate.specs.Owner.{spin_lock_compute_owner, spin_unlock_valid}
use Rattle.spinlock_validate.proofs.Laws.{makes}
use Rattle.spinlock.specs.Lock.{held}
use Rattle.machine.specs.State.{tag_bits, thread_word, setup_ok, has_cpu}
use Rattle.machine.specs.declared.Setup.{Setup}
use Rattle.machine.specs.declared.Lock.{Lock}
use Rattle.machine.proofs.Size.{size_says}
use Rattle.rules.specs.Rules.{elsewhere}

-- A record is held where it has an owner.
pub held_is : (owner : Option ℕ) → held owner ≡ is_some owner
held_is None = refl
held_is (Some t) = refl

module _ (s : Setup) (c t : ℕ) (has : has_cpu s c ≡ true) where
  fits : c < 2 ^ tag_bits s
  fits = lt_of_lt_of_le (ltb-true c s.n (and_right (setup_ok s) _ has)) (size_says s (and_left (setup_ok s) _ has)).tagged

  pub word_is_made : word_of c (thread_word s t) ≡ (spin_lock_compute_owner (tag_bits s) c (thread_word s t)).value
  word_is_made = sym (same_value (makes (tag_bits s) c (thread_word s t) (word_taggable (tag_bits s) c t fits)))

  pub other_word : (lock : Lock) → not (eqb lock.word (word_of c (thread_word s t))) ≡ elsewhere s c t lock
  unfolding spin_unlock_valid
  other_word lock = rw (says_taggable (tag_bits s) c (thread_word s t) (word_taggable (tag_bits s) c t fits))

-- Laws of owner words, over the tag's width k. A word counts as made by a CPU and a thread where computing their owner answers it.
-- What is known of such a word comes from the laws of tags. Assumes nothing.
use mathlib.Core.Path.{◌≡◌, sym, ap, ap₂, ◌∙◌}
use mathlib.Core.Bool.{true, false, cond}
use Prim.Native.Nat.{ℕ, ◌^◌, ◌<◌}
use native.Mathlib.Omega.{arith}
use lib.Dec.{eqb, ltb}
use borrow.Author.Tests.{lt-ltb, le-ltb, eq-eqb, ne_eqb, ltb-false, eqb-true}
use Rattle.error.specs.Codes.{OK, EINVAL}
use Rattle.error.specs.Answer.{Answer, answer}
use Rattle.error.proofs.Answers.{same_value, refused_not_done}
use Rattle.words.specs.Tag.{taggable, word_of, cpu_of, thread_of}
use Rattle.words.proofs.Choice.{bool_ind}
use Rattle.words.proofs.Tags.{Taggable, taggable_says, says_taggable, cpu_back, thread_back, word_some, word_least, word_injective, word_again, parts_taggable}
use Rattle.spinlock_validate.specs.Owner.{Holder, nobody, held_by, spin_lock_compute_owner, spin_lock_decode_owner, spin_lock_valid, spin_unlock_valid}

-- This CPU and this thread make this word.
abbrev pub Makes : ℕ → ℕ → ℕ → ℕ → Type 0
Makes k cpu thread word = spin_lock_compute_owner k cpu thread ≡ answer OK word

-- What that takes, and which word it is.
pub made_by : (k cpu thread word : ℕ) → Makes k cpu thread word → Taggable k cpu thread × (word ≡ word_of cpu thread)
unfolding spin_lock_compute_owner
made_by k cpu thread word =
    bool_ind (λ t. cond t (answer OK (word_of cpu thread)) (answer EINVAL 0) ≡ answer OK word → Taggable k cpu thread × (word ≡ word_of cpu thread))
    (taggable k cpu thread) (λ good made. (taggable_says k cpu thread good, sym (same_value made)))
    (λ _ made. absurd (refused_not_done 21 made))

pub makes : (k cpu thread : ℕ) → Taggable k cpu thread → Makes k cpu thread (word_of cpu thread)
unfolding spin_lock_compute_owner
makes k cpu thread t = rw (says_taggable k cpu thread t)

-- The word that a CPU and a thread made decodes to them.
pub decode_made : (k cpu thread word : ℕ) → Makes k cpu thread word → spin_lock_decode_owner k word ≡ answer OK (held_by thread cpu)
unfolding spin_lock_decode_owner
decode_made k cpu thread word made =
    let m = made_by k cpu thread word made in
    let t = m.0 in
    rw (
      m.1,
      ne_eqb (word_of cpu thread) 0 (word_some k cpu thread t),
      le-ltb (word_of cpu thread) (2 ^ k) (word_least k cpu thread t),
      thread_back k cpu thread t,
      cpu_back k cpu thread t,
    )

-- A word that decodes to a CPU and a thread is the one word that they make.
pub decoded_made : (k cpu thread word : ℕ) → spin_lock_decode_owner k word ≡ answer OK (held_by thread cpu) → Makes k cpu thread word
unfolding spin_lock_decode_owner
decoded_made k cpu thread word =
    bool_ind (λ t. cond t (answer OK nobody) (cond (ltb word (2 ^ k)) (answer EINVAL nobody) own) ≡ held → Makes k cpu thread word) (eqb word 0)
    (λ _ e. absurd (not_nobody (same_value e)))
    (λ _. bool_ind (λ t. cond t (answer EINVAL nobody) own ≡ held → Makes k cpu thread word) (ltb word (2 ^ k))
    (λ _ e. absurd (refused_not_done 21 e)) (λ large e.
    let same = same_value e in
    let theirs : thread_of k word ≡ thread = cc in
    let its : cpu_of k word ≡ cpu = cc in
    sym (ap₂ (λ (c t : ℕ). spin_lock_compute_owner k c t) its theirs)
    ∙ makes k (cpu_of k word) (thread_of k word) (parts_taggable k word (ltb-false word (2 ^ k) large))
    ∙ ap (answer OK) (word_again k word)))
  where
    own : Answer Holder
    own = answer OK (held_by (thread_of k word) (cpu_of k word))

    held : Answer Holder
    held = answer OK (held_by thread cpu)

    not_nobody : nobody ≡ held_by thread cpu → ⊥
    not_nobody e = let o : ◌≡◌ {A = ℕ} 0 1 = cc in omega arith

-- Distinct pairs make distinct words.
pub made_distinct : (k c c' t t' word : ℕ) → Makes k c t word → Makes k c' t' word → (c ≡ c') × (t ≡ t')
made_distinct k c c' t t' word one other =
    let m = made_by k c t word one in
    let m' = made_by k c' t' word other in
    word_injective k c c' t t' m.0 m'.0 (sym m.1 ∙ m'.1)

-- A word made by a CPU and a thread is valid to unlock for them.
pub unlock_own : (k cpu thread word : ℕ) → Makes k cpu thread word → spin_unlock_valid k word cpu thread ≡ answer OK true
unfolding spin_unlock_valid
unlock_own k cpu thread word made =
    let m = made_by k cpu thread word made in
    rw (says_taggable k cpu thread m.0, eq-eqb word (word_of cpu thread) m.1)

-- It is valid to unlock for nobody else: whoever it is valid for is they.
pub unlock_nobody_else : (k cpu thread word c t : ℕ) → Makes k cpu thread word → spin_unlock_valid k word c t ≡ answer OK true
    → (c ≡ cpu) × (t ≡ thread)
unfolding spin_unlock_valid
unlock_nobody_else k cpu thread word c t made =
    bool_ind (λ g. cond g (answer OK (eqb word (word_of c t))) (answer EINVAL false) ≡ answer OK true → (c ≡ cpu) × (t ≡ thread)) (taggable k c t)
    (λ good e.
    let same = eqb-true word (word_of c t) (same_value e) in
    made_distinct k c cpu t thread word (makes k c t (taggable_says k c t good) ∙ ap (answer OK) (sym same)) made)
    (λ _ e. absurd (refused_not_done 21 e))

-- It is not valid to lock for that CPU.
pub lock_own : (k cpu thread word : ℕ) → Makes k cpu thread word → spin_lock_valid k word cpu ≡ answer OK false
unfolding spin_lock_valid
lock_own k cpu thread word made =
    let m = made_by k cpu thread word made in
    let t = m.0 in
    let own = eq-eqb (cpu_of k (word_of cpu thread)) cpu (cpu_back k cpu thread t) in
    rw (m.1, lt-ltb cpu (2 ^ k) t.below, ne_eqb (word_of cpu thread) 0 (word_some k cpu thread t), own)

-- It is valid to lock for every other CPU.
pub lock_other : (k cpu thread word c : ℕ) → Makes k cpu thread word → c < 2 ^ k → (c ≡ cpu → ⊥) → spin_lock_valid k word c ≡ answer OK true
unfolding spin_lock_valid
lock_other k cpu thread word c made below other =
    let m = made_by k cpu thread word made in
    let t = m.0 in
    rw (
      m.1,
      lt-ltb c (2 ^ k) below,
      ne_eqb (word_of cpu thread) 0 (word_some k cpu thread t),
      ne_eqb (cpu_of k (word_of cpu thread)) c (λ e. other (sym e ∙ cpu_back k cpu thread t)),
    )

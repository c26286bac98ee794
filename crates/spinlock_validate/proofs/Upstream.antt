-- Upstream's clauses of spinlock_validate.rs, each as a lemma about the rules here at 2 tag bits and words of 64 bits. Upstream computes
-- with `|` and `&`; the first four lemmas say that these are the sum, the remainder and the difference. Assumes nothing.
use mathlib.Core.Path.{◌≡◌, sym, ap, ◌∙◌}
use mathlib.Core.Bool.{true, false, ◌&&◌, not}
use Prim.Native.Nat.{ℕ, ◌^◌, ◌<◌}
use native.Mathlib.Nat.{mod-lt}
use lib.Bits.{bit_and, bit_or}
use lib.Dec.{eqb, ltb, lit<}
use borrow.Author.Tests.{lt-ltb, eq-eqb, ne_eqb}
use Rattle.error.specs.Codes.{OK}
use Rattle.error.specs.Answer.{answer}
use Rattle.words.specs.Bit.{bit_not}
use Rattle.words.specs.Tag.{taggable, word_of, cpu_of, thread_of}
use Rattle.words.proofs.Tags.{taggable_says, cpu_back, thread_back, word_or, cpu_mask, thread_by_mask}
use Rattle.spinlock_validate.specs.Owner.{tag_bits, spin_lock_compute_owner, spin_lock_valid, spin_unlock_valid}
use Rattle.spinlock_validate.proofs.Laws.{makes}

-- cpu_id_valid and thread_ptr_valid: together they are the test that the calls make.
pub taggable_is_upstreams : (cpu thread : ℕ) → taggable tag_bits cpu thread ≡ ltb cpu 4 && (not (eqb thread 0) && eqb (bit_and thread 3) 0)
taggable_is_upstreams cpu thread = ap (λ (x : ℕ). ltb cpu 4 && (not (eqb thread 0) && eqb x 0)) (sym (cpu_mask tag_bits thread))

-- encode_owner_spec.
pub encode_owner_is_or : (cpu thread : ℕ) → taggable tag_bits cpu thread ≡ true → word_of cpu thread ≡ bit_or thread cpu
encode_owner_is_or cpu thread good = sym (word_or tag_bits cpu thread (taggable_says tag_bits cpu thread good))

-- decode_cpu_spec.
pub decode_cpu_is_and : (word : ℕ) → cpu_of tag_bits word ≡ bit_and word 3
decode_cpu_is_and word = sym (cpu_mask tag_bits word)

-- decode_thread_spec.
pub decode_thread_is_and_not : (word : ℕ) → word < 2 ^ 64 → thread_of tag_bits word ≡ bit_and word (bit_not 64 3)
decode_thread_is_and_not word fits = sym (thread_by_mask 62 tag_bits word fits)

-- spin_lock_valid, first clause: a free lock is valid to acquire.
pub lock_valid_free : (cpu : ℕ) → cpu < 4 → spin_lock_valid tag_bits 0 cpu ≡ answer OK true
unfolding spin_lock_valid
lock_valid_free cpu h = rw (lt-ltb cpu 4 h)

-- spin_lock_valid, second clause: held with the same CPU is not.
pub lock_valid_same_cpu : (word cpu : ℕ) → cpu < 4 → (word ≡ 0 → ⊥) → bit_and word 3 ≡ cpu → spin_lock_valid tag_bits word cpu ≡ answer OK false
unfolding spin_lock_valid
lock_valid_same_cpu word cpu h held same =
    rw (lt-ltb cpu 4 h, ne_eqb word 0 held, eq-eqb (cpu_of tag_bits word) cpu (decode_cpu_is_and word ∙ same))

-- spin_lock_valid, third clause: held with another CPU is.
pub lock_valid_other_cpu : (word cpu : ℕ) → cpu < 4 → (word ≡ 0 → ⊥) → (bit_and word 3 ≡ cpu → ⊥) → spin_lock_valid tag_bits word cpu ≡ answer OK true
unfolding spin_lock_valid
lock_valid_other_cpu word cpu h held other =
    rw (lt-ltb cpu 4 h, ne_eqb word 0 held, ne_eqb (cpu_of tag_bits word) cpu (λ e. other (sym (decode_cpu_is_and word) ∙ e)))

-- spin_unlock_valid: the answer is whether the stored word is the encoded one.
pub unlock_valid_is_encoded : (word cpu thread : ℕ) → taggable tag_bits cpu thread ≡ true
    → spin_unlock_valid tag_bits word cpu thread ≡ answer OK (eqb word (bit_or thread cpu))
unfolding spin_unlock_valid
unlock_valid_is_encoded word cpu thread good = rw (good, encode_owner_is_or cpu thread good)

-- spin_lock_compute_owner: the answer is the encoded word.
pub compute_owner_is_encoded : (cpu thread : ℕ) → taggable tag_bits cpu thread ≡ true
    → spin_lock_compute_owner tag_bits cpu thread ≡ answer OK (bit_or thread cpu)
compute_owner_is_encoded cpu thread good =
    makes tag_bits cpu thread (taggable_says tag_bits cpu thread good) ∙ ap (answer OK) (encode_owner_is_or cpu thread good)

-- SV4, SV5: masking gives the CPU and the thread back.
pub encoded_cpu_back : (cpu thread : ℕ) → taggable tag_bits cpu thread ≡ true → bit_and (bit_or thread cpu) 3 ≡ cpu
encoded_cpu_back cpu thread good =
    ap (λ (w : ℕ). bit_and w 3) (sym (encode_owner_is_or cpu thread good)) ∙ sym (decode_cpu_is_and (word_of cpu thread))
    ∙ cpu_back tag_bits cpu thread (taggable_says tag_bits cpu thread good)

pub encoded_thread_back : (cpu thread : ℕ) → taggable tag_bits cpu thread ≡ true → word_of cpu thread < 2 ^ 64
    → bit_and (bit_or thread cpu) (bit_not 64 3) ≡ thread
encoded_thread_back cpu thread good fits =
    ap (λ (w : ℕ). bit_and w (bit_not 64 3)) (sym (encode_owner_is_or cpu thread good)) ∙ sym (decode_thread_is_and_not (word_of cpu thread) fits)
    ∙ thread_back tag_bits cpu thread (taggable_says tag_bits cpu thread good)

-- SV6: the CPU in any word is below the number of CPUs that a tag tells apart.
pub cpu_in_word_below : (word : ℕ) → cpu_of tag_bits word < 4
cpu_in_word_below word = mod-lt word (lit< tt)

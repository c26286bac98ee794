-- 02, request 4: the calls on owner words for the C kernel, the width as a flag.
use Rattle.std.specs.Prelude.{ℕ, Bool, false, cond, eqb, leb}
use Rattle.error.specs.Codes.{EINVAL}
use Rattle.error.specs.Answer.{Answer, answer}
use Rattle.spinlock_validate.specs.Owner.{
  Holder,
  nobody,
  width_bits,
  width_by,
  spin_lock_compute_owner,
  spin_lock_decode_owner,
  spin_lock_valid,
  spin_unlock_valid,
}

-- A rule by the tag's width, with the width as a number: 0 is narrow, 1 is wide, any other EINVAL with this value.
unfoldable pub by_flag : {A : Type 0} → (ℕ → Answer A) → A → ℕ → Answer A
by_flag rule none wide = cond (leb wide 1) (rule (width_bits (width_by (eqb wide 1)))) (answer EINVAL none)

-- Making a word.
abbrev pub compute_owner : ℕ → ℕ → ℕ → Answer ℕ
compute_owner cpu thread wide = by_flag (λ k. spin_lock_compute_owner k cpu thread) 0 wide

-- Decoding one.
abbrev pub decode_owner : ℕ → ℕ → Answer Holder
decode_owner word wide = by_flag (λ k. spin_lock_decode_owner k word) nobody wide

-- spin_lock_valid.
abbrev pub lock_valid : ℕ → ℕ → ℕ → Answer Bool
lock_valid word cpu wide = by_flag (λ k. spin_lock_valid k word cpu) false wide

-- spin_unlock_valid.
abbrev pub unlock_valid : ℕ → ℕ → ℕ → ℕ → Answer Bool
unlock_valid word cpu thread wide = by_flag (λ k. spin_unlock_valid k word cpu thread) false wide

-- An owner word of either width, narrow or wide: the word that a CPU and a thread make decodes to the two, a word that decodes to them is the one that
-- they make, no other pair makes it, and they alone may unlock it.
--
-- `spin_lock_compute_owner`, `spin_lock_decode_owner`, `spin_unlock_valid` and the widths stand in spinlock_validate/specs/Owner.antt. The laws are proved over
-- the number of bits in spinlock_validate/proofs/Laws.antt; here each width cites them. Assumes nothing.
use mathlib.Core.Path.{◌≡◌}
use mathlib.Core.Bool.{true}
use Prim.Native.Nat.{ℕ}
use Rattle.error.specs.Codes.{OK}
use Rattle.error.specs.Answer.{answer}
use Rattle.spinlock_validate.specs.Owner.{held_by, width_bits, spin_lock_compute_owner, spin_lock_decode_owner, spin_unlock_valid}
use Rattle.spinlock_validate.specs.declared.Width.{Width}
use Rattle.spinlock_validate.proofs.Laws.{decode_made, decoded_made, made_distinct, unlock_own, unlock_nobody_else}

module _ (w : Width) (cpu thread word : ℕ) where
  pub decoded : spin_lock_decode_owner (width_bits w) word ≡ answer OK (held_by thread cpu) → spin_lock_compute_owner (width_bits w) cpu thread ≡ answer OK word
  decoded = decoded_made (width_bits w) cpu thread word

  module _ (made : spin_lock_compute_owner (width_bits w) cpu thread ≡ answer OK word) where
    pub decodes : spin_lock_decode_owner (width_bits w) word ≡ answer OK (held_by thread cpu)
    decodes = decode_made (width_bits w) cpu thread word made

    pub one_pair : (c t : ℕ) → spin_lock_compute_owner (width_bits w) c t ≡ answer OK word → (cpu ≡ c) × (thread ≡ t)
    one_pair c t other = made_distinct (width_bits w) cpu c thread t word made other

    pub own_unlock : spin_unlock_valid (width_bits w) word cpu thread ≡ answer OK true
    own_unlock = unlock_own (width_bits w) cpu thread word made

    pub no_other_unlock : (c t : ℕ) → spin_unlock_valid (width_bits w) word c t ≡ answer OK true → (c ≡ cpu) × (t ≡ thread)
    no_other_unlock c t may = unlock_nobody_else (width_bits w) cpu thread word c t made may

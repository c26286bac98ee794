-- A machine's CPUs are below 2 ^ k for the tag's width k of its setup, so that whether a word names one is what spin_lock_valid denies. Assumes
-- nothing.
use mathlib.Core.Path.{◌≡◌, refl}
use mathlib.Core.Bool.{Bool, true, false, not}
use Prim.Native.Nat.{ℕ, ◌^◌, ◌<◌}
use native.Mathlib.Nat.{lt_of_lt_of_le}
use borrow.Author.Tests.{lt-ltb}
use Rattle.spinlock_validate.specs.Owner.{spin_lock_valid}
use Rattle.machine.specs.State.{tag_bits, names}
use Rattle.machine.specs.declared.Machine.{Machine}
use Rattle.wellformed.proofs.Facts.{WellFormed}

-- Each CPU of a well-formed machine fits its tag.
pub cpu_fits : (m : Machine) → WellFormed m → (c : ℕ) → c < m.setup.n → c < 2 ^ tag_bits m.setup
cpu_fits m w c h = lt_of_lt_of_le h w.size.tagged

not_not : (b : Bool) → not (not b) ≡ b
not_not true = refl
not_not false = refl

-- spin_lock_valid of a word is no for the CPU that it names, and for no other.
pub names_not_valid : (m : Machine) → WellFormed m → (c : ℕ) → c < m.setup.n → (word : ℕ)
    → not (spin_lock_valid (tag_bits m.setup) word c).value ≡ names m.setup word c
unfolding spin_lock_valid
names_not_valid m w c h word = rw (lt-ltb c (2 ^ tag_bits m.setup) (cpu_fits m w c h)) (not_not (names m.setup word c))

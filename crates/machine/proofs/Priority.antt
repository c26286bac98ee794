-- What the test of a thread's priority says: it lies in -128..127. And back. Assumes nothing.
use mathlib.Core.Path.{◌≡◌, refl}
use mathlib.Core.Bool.{Bool, true, false}
use lib.Dec.{T}
use lib.IntN.{ℤ, pos, neg_ℤ}
use lib.Signed.{le_z, ◌≤ℤ◌, le_z_yes}
use Rattle.words.proofs.Below.{both}
use Rattle.words.proofs.Choice.{and_left, and_right}
use Rattle.machine.specs.State.{is_priority}

holds : {t : Bool} → t ≡ true → T t
holds e = rw e tt

held : (t : Bool) → T t → t ≡ true
held true h = refl
held false h = absurd h

pub priority_says : (p : ℤ) → is_priority p ≡ true → (neg_ℤ (pos 128) ≤ℤ p) × (p ≤ℤ pos 127)
unfolding is_priority
priority_says p e =
    let least : le_z (neg_ℤ (pos 128)) p ≡ true = and_left (le_z (neg_ℤ (pos 128)) p) _ e in
    let greatest : le_z p (pos 127) ≡ true = and_right (le_z (neg_ℤ (pos 128)) p) _ e in
    (le_z_yes {a = neg_ℤ (pos 128)} {b = p} (holds least), le_z_yes {a = p} {b = pos 127} (holds greatest))

pub says_priority : (p : ℤ) → neg_ℤ (pos 128) ≤ℤ p → p ≤ℤ pos 127 → is_priority p ≡ true
unfolding is_priority
says_priority p least greatest = both (held (le_z (neg_ℤ (pos 128)) p) least.le) (held (le_z p (pos 127)) greatest.le)

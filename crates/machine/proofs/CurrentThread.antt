-- The test for the current thread and the fact, each way. Assumes nothing.
use Rattle.std.specs.Prelude.{Option, None, Some}
use Rattle.machine.specs.declared.ThreadId.{ThreadId}
use mathlib.Core.Path.{◌≡◌, refl, ap}
use mathlib.Core.Bool.{true, false≢true}
use Prim.Native.Nat.{ℕ}
use borrow.Author.Tests.{eqb-true, eq-eqb}
use Rattle.machine.specs.State.{is_current}

pub current_names : (current : Option ThreadId) (t : ℕ) → is_current current t ≡ true → current ≡ Some (record { 0 = t })
current_names None t e = absurd (false≢true e)
current_names (Some s) t e = ap (λ (n : ℕ). Some (record { 0 = n })) (eqb-true s.0 t e)

pub current_is : (current : Option ThreadId) (t : ℕ) → current ≡ Some (record { 0 = t }) → is_current current t ≡ true
current_is current t e = rw e (eq-eqb t t refl)

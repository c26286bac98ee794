-- The same of bytes: of two logs of whole records within the limit, one a rearrangement of the other, the runner gives the same code and the same
-- end machine, and writes for each record the eight bytes that it had, each at its record's place. From a setup byte it is so of the program.
--
-- `SameBytes`, `SameResponse` and `Rearranged` stand in rearranged/specs/Rearranged.antt, the runner's rule in runner/specs/Run.antt, the
-- program's in program/specs/Program.antt. The proofs are in rearranged/proofs/Bytes.antt. Assumes nothing.
use mathlib.Core.Path.{◌≡◌}
use mathlib.Core.List.{List}
use Prim.Native.Nat.{ℕ, ◌/◌}
use lib.ListN.{length}
use Rattle.machine.specs.State.{setup}
use Rattle.machine.specs.declared.Machine.{Machine}
use Rattle.rearranged.specs.Rearranged.{Rearranged, SameBytes, SameResponse}
use Rattle.rearranged.proofs.Bytes.{rearranged_bytes, rearranged_response}

-- The runner, on any machine and with any room.
pub another_order_run : (m : Machine) (old new room : List ℕ) (π : ℕ → ℕ) → length new ≡ length old
    → Rearranged m.setup (length old / 12) old new π → SameBytes m old new room π
another_order_run = rearranged_bytes

-- The program, from any setup byte and with any room.
pub another_order_program : (byte : ℕ) (old new room : List ℕ) (π : ℕ → ℕ) → length new ≡ length old
    → Rearranged (setup byte).value.setup (length old / 12) old new π → SameResponse byte old new room π
another_order_program = rearranged_response

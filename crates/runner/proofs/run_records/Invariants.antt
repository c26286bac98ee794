-- The machine is the state and the room the answers after the records passed; the setup stays. The measure is the records that are left.
-- Assumes nothing.
use mathlib.Core.Path.{◌≡◌}
use Prim.Native.Nat.{◌/◌, ◌≤◌}
use lib.ListN.{length}
use Rattle.operations.specs.Log.{state_at}
use Rattle.runner.specs.Run.{room_at}
use Rattle.runner.proofs.run_records.Given as goal

abbrev pub invariant-loop-k : goal.invariant-loop-k
invariant-loop-k l =
    (l.k ≤ length l.log / 12) × (length l.out ≡ length l.fn.out) × (l.m ≡ state_at l.fn.m l.log l.k) × (l.out ≡ room_at l.fn.m l.log l.fn.out l.k)
    × (l.m.setup ≡ l.fn.m.setup)

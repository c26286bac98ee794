-- The loop's invariant: the bytes of the first `i` items stand in the room, and come back. Assumes nothing.
use mathlib.Core.Path.{◌≡◌}
use Prim.Native.Nat.{◌≤◌}
use lib.ListN.{length}
use Rattle.machine_bytes.proofs.Each.{Stored}
use Rattle.machine_bytes.proofs.put_each.Given as goal

abbrev pub invariant-loop-i : goal.invariant-loop-i
invariant-loop-i g l =
    let t = g.T.Field in
    (l.i ≤ length l.items) × (length l.out ≡ length l.fn.out) × Stored t.to_bytes t.from_bytes t.BYTES l.fn.out l.at l.items l.i l.out

-- The room has the bytes of the holder that the decoding says (`Decoded`). Assumes nothing.
use mathlib.Core.Path.{◌∙◌}
use mir.Syntax.{w32}
use mir.ValLaws.{to_z-of_z}
use Rattle.std.specs.Prelude.{None}
use Rattle.kernel.proofs.Decoded.{decoded_as_bytes}
use Rattle.kernel.proofs.hubcrackle_spin_lock_decode_owner.Goals as goal

pub returns-clause-code : goal.returns-clause-code
returns-clause-code c =
    let d = c.decode_owner in
    to_z-of_z w32 c.put.result (record { sfits = c.put.type_inv }) ∙ (rw (← d.ensures, ← decoded_as_bytes d.result) (c.put.ensures.code None))

pub returns-clause-room : goal.returns-clause-room
returns-clause-room c =
    let d = c.decode_owner in
    rw (← d.ensures, ← decoded_as_bytes d.result) (c.put.ensures.room None)

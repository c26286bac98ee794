-- The answer is put with OK, whatever a refusal would say. Assumes nothing.
use mathlib.Core.Bool.{false}
use mathlib.Core.Path.{◌∙◌}
use mir.Syntax.{w32}
use mir.ValLaws.{to_z-of_z}
use Rattle.kernel.proofs.hubcrackle_validate_pin_mask.Goals as goal

pub returns-clause-code : goal.returns-clause-code
returns-clause-code c =
    to_z-of_z w32 c.put.result (record { sfits = c.put.type_inv }) ∙ (rw (← c.validate_pin_mask.ensures) (c.put.ensures.code false))

pub returns-clause-room : goal.returns-clause-room
returns-clause-room c = rw (← c.validate_pin_mask.ensures) (c.put.ensures.room false)

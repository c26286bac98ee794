-- A decoding's bytes in lent room are those of the holder that it says. Assumes nothing.
use mathlib.Core.Path.{◌≡◌, refl}
use Rattle.std.specs.Prelude.{Option, None, Some, Result, Ok, Err}
use Rattle.error.specs.declared.Refusal.{Refusal}
use Rattle.error.specs.Answer.{says}
use Rattle.spinlock_validate.specs.Owner.{decoded_says}
use Rattle.spinlock_validate.specs.declared.Held.{Held}
use Rattle.lent_room.specs.Room.{held_bytes, as_bytes}
use Rattle.kernel.specs.Calls.{decoded_bytes}

pub decoded_as_bytes : (r : Result (Option Held) Refusal) → as_bytes held_bytes (says None r) ≡ as_bytes decoded_bytes (decoded_says r)
decoded_as_bytes (Ok None) = refl
decoded_as_bytes (Ok (Some held)) = refl
decoded_as_bytes (Err why) = refl

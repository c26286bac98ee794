-- What is said of a decoding tells it apart, so each statement here allows one result. Assumes nothing.
use mathlib.Core.Path.{◌≡◌, refl, sym, ap, ◌∙◌}
use Rattle.std.specs.Prelude.{Option, None, Some, Result, Ok, Err}
use Rattle.error.specs.Answer.{says}
use Rattle.error.specs.declared.Refusal.{Refusal}
use Rattle.error.proofs.OneResult.{TellsApart, says_apart}
use Rattle.spinlock_validate.specs.Owner.{Holder, nobody, held_by, decoded_says}
use Rattle.spinlock_validate.specs.declared.Held.{Held}

-- A decoding with its holder in 01's terms.
holder_of : Option Held → Holder
holder_of None = nobody
holder_of (Some held) = held_by held.thread held.cpu

-- The decoding that a holder comes from.
decoding_of : Holder → Option Held
decoding_of nobody = None
decoding_of (held_by thread cpu) = Some (record { thread = thread; cpu = cpu })

named : Result (Option Held) Refusal → Result Holder Refusal
named (Ok held) = Ok (holder_of held)
named (Err why) = Err why

read : Result Holder Refusal → Result (Option Held) Refusal
read (Ok holder) = Ok (decoding_of holder)
read (Err why) = Err why

back : (r : Result (Option Held) Refusal) → read (named r) ≡ r
unfolding read named holder_of decoding_of
back (Ok None) = refl
back (Ok (Some held)) = refl
back (Err why) = refl

said : (r : Result (Option Held) Refusal) → decoded_says r ≡ says nobody (named r)
unfolding named holder_of
said (Ok None) = refl
said (Ok (Some held)) = refl
said (Err why) = refl

pub decoded_apart : TellsApart decoded_says
decoded_apart r s e = sym (back r) ∙ ap read (says_apart nobody (named r) (named s) (sym (said r) ∙ e ∙ said s)) ∙ back s

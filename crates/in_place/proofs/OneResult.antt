-- What is said of a call's code and of the record that it leaves tells them apart, so each statement here allows one code and one record.
-- Assumes nothing.
use mathlib.Core.Path.{refl}
use Rattle.error.specs.Codes.{number_of}
use Rattle.error.specs.Answer.{answer}
use Rattle.std.specs.Prelude.{Result}
use Rattle.error.specs.declared.Refusal.{Refusal}
use Rattle.error.proofs.OneResult.{TellsApart, coded_apart}
use Rattle.spinlock.specs.declared.SpinlockState.{SpinlockState}

pub left_apart : TellsApart (λ (x : Result (Unit {0}) Refusal × SpinlockState). answer (number_of x.0) x.1)
left_apart = coded_apart (λ c s. (c, s)) (λ x. x.0) (λ x. x.1) (λ x. refl)

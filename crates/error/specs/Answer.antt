-- 01, "Codes": what a call answers is a code and a value; where no value is named, a refusing call gives 0, none or no.
use Rattle.std.specs.Prelude.{ℤ, Result, Ok, Err}
use Rattle.error.specs.Codes.{OK, refusal_number}
use Rattle.error.specs.declared.Refusal.{Refusal}

-- A code's number, and the value that goes with it.
pub record Answer (A : Type 0) : Type 0 where
  pub code : ℤ
  pub value : A

-- The answer with this code and this value.
abbrev pub answer : {A : Type 0} → ℤ → A → Answer A
answer c v = record { code = c; value = v }

-- What a result says, in 01's terms: OK with its value, or the number of the refusal with the value that a refusing call gives.
abbrev pub says : {A : Type 0} → A → Result A Refusal → Answer A
says refused (Ok value) = answer OK value
says refused (Err why) = answer (refusal_number why) refused

-- What is said of an answer, and of cells, tells them apart, so each statement of cpu_rules, lock_rules, thread_rules and unwind_rules allows one
-- result. Assumes nothing.
use mathlib.Core.Path.{refl, sym, ap, ap₂}
use Prim.Native.Nat.{ℕ}
use Rattle.std.specs.Prelude.{Result, Ok, Err}
use Rattle.error.specs.Codes.{number_of}
use Rattle.error.specs.Answer.{Answer, answer, says}
use Rattle.error.specs.declared.Refusal.{Refusal}
use Rattle.error.proofs.OneResult.{TellsApart, refusal_number_apart, refusal_is_not_ok, says_apart, number_apart, coded_apart}
use Rattle.machine.specs.declared.Cpu.{Cpu}
use Rattle.machine.specs.declared.Thread.{Thread}
use Rattle.machine.specs.declared.Lock.{Lock}
use Rattle.rules.specs.declared.Answered.{Answered}
use Rattle.rules.specs.Rules.{answered_says, cells_say}

pub answered_apart : TellsApart answered_says
answered_apart = coded_apart (λ c v. record { code = c; value = v }) (λ a. a.code) (λ a. a.value) (λ a. refl)

module _ {W : Type 0} (before : W) where
  pub cells_apart : TellsApart (cells_say before)
  cells_apart (Ok v) (Ok w) e = ap Ok (ap (λ (x : Answer ℕ × W). x.1) e)
  cells_apart (Ok v) (Err why) e = absurd (refusal_is_not_ok why (ap (λ (x : Answer ℕ × W). x.0.code) e))
  cells_apart (Err why) (Ok w) e = absurd (refusal_is_not_ok why (sym (ap (λ (x : Answer ℕ × W). x.0.code) e)))
  cells_apart (Err a) (Err b) e = ap Err (refusal_number_apart a b (ap (λ (x : Answer ℕ × W). x.0.code) e))

-- A result is told apart beside the cells that it leaves, too.
pub beside_apart : {R A W : Type 0} (said : R → A) → TellsApart said → TellsApart {A = A × W} (λ (x : R × W). (said x.0, x.1))
beside_apart {R = R} {A = A} {W = W} said apart r s e =
    ap₂ (λ (a : R) (w : W). (a, w)) (apart r.0 s.0 (ap (λ (x : A × W). x.0) e)) (ap (λ (x : A × W). x.1) e)

-- A code with the value 0, by its number.
code_apart : TellsApart (λ (r : Result (Unit {0}) Refusal). answer {A = ℕ} (number_of r) 0)
code_apart r s e = number_apart r s (ap (λ (a : Answer ℕ). a.code) e)

pub cpu_apart : TellsApart {A = Answer ℕ × (Cpu × Thread)} (λ (x : Result (Unit {0}) Refusal × (Cpu × Thread)). (answer {A = ℕ} (number_of x.0) 0, x.1))
cpu_apart = beside_apart (λ (r : Result (Unit {0}) Refusal). answer {A = ℕ} (number_of r) 0) code_apart

pub lock_apart : TellsApart {A = Answer ℕ × (Cpu × Lock)} (λ (x : Answered × (Cpu × Lock)). (answered_says x.0, x.1))
lock_apart = beside_apart answered_says answered_apart

pub thread_apart : TellsApart {A = Answer ℕ × Thread} (λ (x : Answered × Thread). (answered_says x.0, x.1))
thread_apart = beside_apart answered_says answered_apart

pub unwind_apart : TellsApart {A = Answer ℕ × Cpu} (λ (x : Result ℕ Refusal × Cpu). (says 0 x.0, x.1))
unwind_apart = beside_apart (says 0) (says_apart 0)

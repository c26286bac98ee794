-- A refused call in place leaves the caller's record as it was, be the record invalid, busy or another's. The premise is the statement of the
-- two calls: `acquire` and `release` are `operate` at their operations, nobody elsewhere. What spinlock shows of the rules gives the rest.
-- Assumes nothing.
use mathlib.Core.Path.{◌≡◌, ◌∙◌}
use mathlib.Core.Bool.{false}
use Prim.Native.Nat.{ℕ}
use Rattle.error.specs.Codes.{number_of}
use Rattle.error.specs.Answer.{answer}
use Rattle.std.specs.Prelude.{Result, Ok}
use Rattle.error.specs.declared.Refusal.{Refusal}
use Rattle.error.proofs.OneResult.{number_apart}
use Rattle.error.proofs.Answers.{same_code, same_value}
use Rattle.spinlock.specs.Lock.{operate}
use Rattle.spinlock.specs.declared.SpinlockState.{SpinlockState}
use Rattle.spinlock.specs.declared.Operation.{Operation}
use Rattle.spinlock.proofs.Laws.{refused_unchanged}

pub refused_leaves : (op : Operation) (before after : SpinlockState) (tid : ℕ) (code : Result (Unit {0}) Refusal)
    → answer (number_of code) after ≡ operate op before tid false → (code ≡ Ok tt → ⊥) → after ≡ before
refused_leaves op before after tid code e refused =
    same_value e ∙ refused_unchanged op before tid false (λ done. refused (number_apart code (Ok tt) (same_code e ∙ done)))

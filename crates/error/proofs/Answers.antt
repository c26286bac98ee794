-- What equal answers have in common, and that no refusal is also done. Assumes nothing.
use mathlib.Core.Path.{◌≡◌, sym, ap, refl}
use Prim.Native.Nat.{ℕ}
use lib.IntN.{negsuc, pos-ne-negsuc}
use Rattle.std.specs.Prelude.{Result, Ok, Err}
use Rattle.std.specs.Result.{IsErrAnd}
use Rattle.error.specs.Codes.{OK, number_of, refusal_number, is_ok}
use Rattle.error.specs.Answer.{Answer, answer, says}
use Rattle.error.specs.declared.Refusal.{Refusal}
use Rattle.error.specs.declared.Refusal.TheVariants.{Eperm, Enomem, Ebusy, Einval, Edeadlk, Ealready, Eoverflow}
use mathlib.Core.Bool.{false}

module _ {A : Type 0} where
  pub same_code : {a b : Answer A} → a ≡ b → a.code ≡ b.code
  same_code e = ap (λ (x : Answer A). x.code) e

  pub same_value : {a b : Answer A} → a ≡ b → a.value ≡ b.value
  same_value e = ap (λ (x : Answer A). x.value) e

  -- An answer with a negative code is not one with OK.
  pub refused_not_done : (n : ℕ) {v w : A} → answer (negsuc n) v ≡ answer OK w → ⊥
  refused_not_done n e = pos-ne-negsuc 0 n (sym (same_code e))

-- What the exit of a `?` says: the refusal that came, with the value that a refusing call gives.
pub says_refused : {A : Type 0} (refused : A) (why : Refusal) (r : Result A Refusal) → IsErrAnd r (λ given. given ≡ why)
    → says refused r ≡ answer (refusal_number why) refused
says_refused refused why (Ok v) same = elim same [ ]
says_refused refused why (Err given) same = ap (λ (w : Refusal). answer (refusal_number w) refused) same

-- No refusal's number is OK's.
pub refusal_refuses : (why : Refusal) → is_ok (refusal_number why) ≡ false
refusal_refuses Eperm = refl
refusal_refuses Enomem = refl
refusal_refuses Ebusy = refl
refusal_refuses Einval = refl
refusal_refuses Edeadlk = refl
refusal_refuses Ealready = refl
refusal_refuses Eoverflow = refl

-- The same of a code alone.
pub code_refused : (why : Refusal) (r : Result (Unit {0}) Refusal) → IsErrAnd r (λ given. given ≡ why) → number_of r ≡ refusal_number why
code_refused why (Ok done) same = elim same [ ]
code_refused why (Err given) same = ap refusal_number same

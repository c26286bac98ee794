-- A statement `says r ≡ rule` allows one result, where `says` tells any two results apart. Assumes nothing.
use mathlib.Core.Path.{◌≡◌, refl, sym, ap, ap₂, ◌∙◌}
use mathlib.Core.Bool.{cond}
use lib.Dec.{eqb}
use lib.IntN.{ℤ, nat_abs, pos-ne-negsuc}
use Rattle.std.specs.Prelude.{Result, Ok, Err}
use Rattle.error.specs.Codes.{OK, number_of, refusal_number}
use Rattle.error.specs.Answer.{Answer, answer, says}
use Rattle.error.specs.declared.Refusal.{Refusal}
use Rattle.error.specs.declared.Refusal.TheVariants.{Eperm, Enomem, Ebusy, Einval, Edeadlk, Ealready, Eoverflow}

-- Results of which the same is said are equal.
abbrev pub TellsApart : {R A : Type 0} → (R → A) → Type 0
TellsApart {R} says = (r s : R) → says r ≡ says s → r ≡ s

-- Two results that a statement allows are equal.
pub one_result : {R A : Type 0} (says : R → A) → TellsApart says → (rule : A) (r s : R) → says r ≡ rule → says s ≡ rule → r ≡ s
one_result says apart rule r s p q = apart r s (p ∙ sym q)

-- A statement `r ≡ rule` speaks of the result itself.
pub itself_apart : {R : Type 0} → TellsApart (λ (r : R). r)
itself_apart r s e = e

-- The refusal that has a number.
refusal_of : ℤ → Refusal
refusal_of z =
    cond (eqb (nat_abs z) 1) Eperm
    (cond (eqb (nat_abs z) 12) Enomem
    (cond (eqb (nat_abs z) 16) Ebusy
    (cond (eqb (nat_abs z) 22) Einval
    (cond (eqb (nat_abs z) 45) Edeadlk
    (cond (eqb (nat_abs z) 114) Ealready Eoverflow)))))

refusal_back : (why : Refusal) → refusal_of (refusal_number why) ≡ why
unfolding refusal_of
refusal_back Eperm = refl
refusal_back Enomem = refl
refusal_back Ebusy = refl
refusal_back Einval = refl
refusal_back Edeadlk = refl
refusal_back Ealready = refl
refusal_back Eoverflow = refl

-- No two refusals have the same number.
pub refusal_number_apart : TellsApart refusal_number
refusal_number_apart c d e = sym (refusal_back c) ∙ ap refusal_of e ∙ refusal_back d

-- No refusal has OK's number.
pub refusal_is_not_ok : (why : Refusal) → OK ≡ refusal_number why → ⊥
refusal_is_not_ok Eperm = pos-ne-negsuc 0 0
refusal_is_not_ok Enomem = pos-ne-negsuc 0 11
refusal_is_not_ok Ebusy = pos-ne-negsuc 0 15
refusal_is_not_ok Einval = pos-ne-negsuc 0 21
refusal_is_not_ok Edeadlk = pos-ne-negsuc 0 44
refusal_is_not_ok Ealready = pos-ne-negsuc 0 113
refusal_is_not_ok Eoverflow = pos-ne-negsuc 0 138

-- A result is told apart by its code's number and its value, whatever value a refusing call gives.
pub says_apart : {A : Type 0} (refused : A) → TellsApart (says refused)
says_apart {A = A} refused (Ok v) (Ok w) e = ap Ok (ap (λ (a : Answer A). a.value) e)
says_apart {A = A} refused (Ok v) (Err why) e = absurd (refusal_is_not_ok why (ap (λ (a : Answer A). a.code) e))
says_apart {A = A} refused (Err why) (Ok w) e = absurd (refusal_is_not_ok why (sym (ap (λ (a : Answer A). a.code) e)))
says_apart {A = A} refused (Err c) (Err d) e = ap Err (refusal_number_apart c d (ap (λ (a : Answer A). a.code) e))

-- No two answers without a value have the same number.
pub number_apart : TellsApart number_of
number_apart (Ok a) (Ok b) e = refl
number_apart (Ok a) (Err why) e = absurd (refusal_is_not_ok why e)
number_apart (Err why) (Ok b) e = absurd (refusal_is_not_ok why (sym e))
number_apart (Err c) (Err d) e = ap Err (refusal_number_apart c d e)

-- A result that is a code and a value is told apart by the code's number and the value.
pub coded_apart : {R A : Type 0} (make : Result (Unit {0}) Refusal → A → R) (code : R → Result (Unit {0}) Refusal) (value : R → A)
    → ((r : R) → make (code r) (value r) ≡ r) → TellsApart (λ (r : R). answer (number_of (code r)) (value r))
coded_apart {A = A} make code value whole r s e =
    sym (whole r)
    ∙ ap₂ make (number_apart (code r) (code s) (ap (λ (a : Answer A). a.code) e)) (ap (λ (a : Answer A). a.value) e)
    ∙ whole s

-- 01, "Codes", and 02, request 6: the numbers that a call answers with.
use Rattle.std.specs.Prelude.{◌≡◌, List, ℕ, codes, Bool, eqb, ℤ, pos, neg_ℤ, nat_abs, Result, Ok, Err}
use Rattle.error.specs.declared.Refusal.{Refusal}
use Rattle.error.specs.declared.Refusal.TheVariants.{Eperm, Enomem, Ebusy, Einval, Edeadlk, Ealready, Eoverflow}

-- Done.
abbrev pub OK : ℤ
OK = pos 0

-- Not the owner; thread not on that CPU.
abbrev pub EPERM : ℤ
EPERM = neg_ℤ (pos 1)

-- Answer room too short.
abbrev pub ENOMEM : ℤ
ENOMEM = neg_ℤ (pos 12)

-- Held; depth 255; CPU or thread occupied; CPU holds locks.
abbrev pub EBUSY : ℤ
EBUSY = neg_ℤ (pos 16)

-- Bad number, form, record or mask; CPU down or empty; thread running.
abbrev pub EINVAL : ℤ
EINVAL = neg_ℤ (pos 22)

-- 02, request 6: held by the asking CPU itself.
abbrev pub EDEADLK : ℤ
EDEADLK = neg_ℤ (pos 45)

-- CPU already up, or already down.
abbrev pub EALREADY : ℤ
EALREADY = neg_ℤ (pos 114)

-- Log over 24,576 bytes.
abbrev pub EOVERFLOW : ℤ
EOVERFLOW = neg_ℤ (pos 139)

-- The number of each refusal.
abbrev pub refusal_number : Refusal → ℤ
refusal_number Eperm = EPERM
refusal_number Enomem = ENOMEM
refusal_number Ebusy = EBUSY
refusal_number Einval = EINVAL
refusal_number Edeadlk = EDEADLK
refusal_number Ealready = EALREADY
refusal_number Eoverflow = EOVERFLOW

-- The name of each refusal.
abbrev pub refusal_name : Refusal → List ℕ
refusal_name Eperm = codes "EPERM"
refusal_name Enomem = codes "ENOMEM"
refusal_name Ebusy = codes "EBUSY"
refusal_name Einval = codes "EINVAL"
refusal_name Edeadlk = codes "EDEADLK"
refusal_name Ealready = codes "EALREADY"
refusal_name Eoverflow = codes "EOVERFLOW"

-- The refusal with this number, or the number where no refusal has it.
abbrev pub IsOfNumber : ℤ → Result Refusal ℤ → Type 0
IsOfNumber number (Ok why) = refusal_number why ≡ number
IsOfNumber number (Err other) = (other ≡ number) × ((why : Refusal) → refusal_number why ≡ number → ⊥)

-- The number of what a call answers: OK's, or the refusal's.
abbrev pub number_of : Result (Unit {0}) Refusal → ℤ
number_of (Ok done) = OK
number_of (Err why) = refusal_number why

-- The number is OK's.
abbrev pub is_ok : ℤ → Bool
is_ok code = eqb (nat_abs code) 0

-- 01, "What must change shape": the codes of acquire, plain or nested, and of release depend only on whether a record is free, the owner's
-- below 255, the owner's at 255 or another's. 02, request 6: so do those of a plain acquire again, by the CPU that the lock's word names.
use Rattle.std.specs.Prelude.{ℕ, cond, ℤ}
use Rattle.error.specs.Codes.{OK, EPERM, EBUSY, EDEADLK}
use Rattle.spinlock.specs.declared.Operation.{Operation}
use Rattle.spinlock.specs.declared.Operation.TheVariants.{Acquire, Release}
use Rattle.spinlock.specs.declared.Situation.{Situation}
use Rattle.spinlock.specs.declared.Situation.TheVariants.{Free, Own, Full, Foreign}

-- An operation's row of the table.
abbrev pub row_of : Operation → ℕ
row_of (Acquire nested) = cond nested 1 0
row_of Release = 2

-- A situation's column.
abbrev pub column_of : Situation → ℕ
column_of Free = 0
column_of Own = 1
column_of Full = 2
column_of Foreign = 3

-- acquire: held is EBUSY, for the owner also, unless it is nested and the owner's below 255. release: else EPERM, for a free lock too.
unfoldable pub code_of : Operation → Situation → ℤ
code_of (Acquire nested) Free = OK
code_of (Acquire nested) Own = cond nested OK EBUSY
code_of (Acquire nested) Full = EBUSY
code_of (Acquire nested) Foreign = EBUSY
code_of Release Free = EPERM
code_of Release Own = OK
code_of Release Full = OK
code_of Release Foreign = EPERM

-- acquire again: held is EDEADLK, whoever holds it there.
unfoldable pub code_again : Situation → ℤ
code_again Free = OK
code_again Own = EDEADLK
code_again Full = EDEADLK
code_again Foreign = EDEADLK

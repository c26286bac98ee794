-- 01's form test as it stood before 02's second request made one acquire of two: 4 asked for a plain acquire, 5 for a nested one, and A of both
-- was zero. Kept to hold the form test of today against it (proofs/OneAcquire.antt).
use Rattle.std.specs.Prelude.{Bool, true, false, ◌&&◌, cond, List, [], ◌∷◌, ◌++◌, ℕ, ◌+◌, eqb, length, get_or, take, drop, replicate}
use Rattle.error.specs.Answer.{Answer}
use Rattle.words.specs.Signed.{to_signed}
use Rattle.spinlock.specs.declared.Operation.{Operation as LockOperation}
use Rattle.order.specs.Cells.{Op, after, reply}
use Rattle.machine.specs.State.{setup_ok}
use Rattle.machine.specs.declared.Setup.{Setup}
use Rattle.machine.specs.declared.Machine.{Machine}
use Rattle.record.specs.Record.{none, mask, priority, Row, row, rows, no_row, fields_of, fits, carried, malformed}
use Rattle.record.specs.declared.CpuOperation.{CpuOperation}
use Rattle.record.specs.declared.ThreadOperation.{ThreadOperation}
use Rattle.record.specs.declared.Operation.{Operation}
use Rattle.record.specs.declared.Request.{Request}
use Rattle.operations.specs.Cells.{machine_store}
use Rattle.operations.specs.Operations.{operation}

-- The row of operation 4.
abbrev pub plain_row : Row
plain_row = row true false true none none (λ a b. Operation.OnLock (LockOperation.Acquire false))

-- That of operation 5.
abbrev pub nested_row : Row
nested_row = row true false true none none (λ a b. Operation.OnLock (LockOperation.Acquire true))

-- 01's table of operations, 0 to 11.
abbrev pub first_rows : List Row
first_rows =
    row true false false none none (λ a b. Operation.OnCpu CpuOperation.Up)
    ∷ row true false false none none (λ a b. Operation.OnCpu CpuOperation.Down)
    ∷ row true true false none none (λ a b. Operation.OnCpu CpuOperation.Put)
    ∷ row true true false none none (λ a b. Operation.OnCpu CpuOperation.Take)
    ∷ plain_row
    ∷ nested_row
    ∷ row true false true none none (λ a b. Operation.OnLock LockOperation.Release)
    ∷ row false true false mask mask (λ a b. Operation.OnThread (ThreadOperation.Mask a b))
    ∷ row true true false none none (λ a b. Operation.OnThread ThreadOperation.Pin)
    ∷ row false true false priority none (λ a b. Operation.OnThread (ThreadOperation.Priority (to_signed 31 a)))
    ∷ row true true false none none (λ a b. Operation.Ipi)
    ∷ row false false true none none (λ a b. Operation.Owner)
    ∷ []

-- Behind it, the operations that 02 adds: 12.
abbrev pub former_rows : List Row
former_rows = first_rows ++ drop (length first_rows) rows

-- The row of an operation's number.
unfoldable pub former_row : ℕ → Row
former_row number = get_or former_rows number no_row

-- What the fields in bytes asked for, on a machine of n CPUs.
abbrev pub former_fields : ℕ → List ℕ → Request
former_fields n bs =
    let f = fields_of bs in
    let r = former_row f.operation in
    cond (eqb f.zero 0 && fits n r f) (carried r f) malformed

-- What twelve bytes asked for, on a setup that a machine can have.
unfoldable pub former_request : Setup → List ℕ → Request
former_request k bs = cond (setup_ok k && eqb (length bs) 12) (former_fields k.n bs) malformed

-- The operation that they asked of a machine.
abbrev pub formerly_asked : Machine → List ℕ → Op machine_store (Answer ℕ)
formerly_asked m bytes = operation m.setup (former_request m.setup bytes)

-- The answer that they had.
unfoldable pub formerly_answered : Machine → List ℕ → Answer ℕ
formerly_answered m bytes = reply machine_store (Answer ℕ) m (formerly_asked m bytes)

-- The machine after it.
unfoldable pub formerly_next : Machine → List ℕ → Machine
formerly_next m bytes = after machine_store (Answer ℕ) m (formerly_asked m bytes)

-- The bytes are of operation 5.
abbrev pub is_five : List ℕ → Bool
is_five bs = eqb (fields_of bs).operation 5

-- They are of operation 4, with A = 1.
abbrev pub is_nested : List ℕ → Bool
is_nested bs = eqb (fields_of bs).operation 4 && eqb (fields_of bs).a 1

-- The same record as it was written before: operation 5, and A zero.
unfoldable pub as_five : List ℕ → List ℕ
as_five bs = (get_or bs 0 0 + 16) ∷ (take 3 (drop 1 bs) ++ (replicate 4 0 ++ drop 8 bs))

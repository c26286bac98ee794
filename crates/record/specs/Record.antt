-- 01, "Log records": the twelve bytes of a record, the form test, and the request that they carry.
use Rattle.std.specs.Prelude.{ℕ, ◌+◌, ◌*◌, ◌/◌, ◌%◌, ◌<◌, Bool, true, false, ◌&&◌, cond, List, [], ◌∷◌, ◌++◌, eqb, ltb, length, get_or, take, drop}
use Rattle.words.specs.HighFirst.{high_first, from_high_first}
use Rattle.words.specs.Signed.{to_signed, from_signed}
use Rattle.spinlock.specs.declared.Operation.{Operation as LockOperation}
use Rattle.machine.specs.State.{cpu_slots, thread_count, lock_count, setup_ok, is_priority}
use Rattle.machine.specs.declared.Setup.{Setup}
use Rattle.machine.specs.declared.CpuId.{CpuId}
use Rattle.machine.specs.declared.ThreadId.{ThreadId}
use Rattle.machine.specs.declared.LockId.{LockId}
use Rattle.record.specs.declared.Fields.{Fields}
use Rattle.record.specs.declared.CpuOperation.{CpuOperation}
use Rattle.record.specs.declared.ThreadOperation.{ThreadOperation}
use Rattle.record.specs.declared.Operation.{Operation}
use Rattle.record.specs.declared.Request.{Request}

-- Fields packed most significant first: operation 4 bits, cpu 4, thread 8, lock 8, zero 8, A 32, B 32.
unfoldable pub fields_of : List ℕ → Fields
fields_of bs =
    record {
      operation = get_or bs 0 0 / 16;
      cpu = get_or bs 0 0 % 16;
      thread = get_or bs 1 0;
      lock = get_or bs 2 0;
      zero = get_or bs 3 0;
      a = from_high_first (take 4 (drop 4 bs));
      b = from_high_first (take 4 (drop 8 bs));
    }

-- What A or B may be: zero alone, a flag, any mask, or a priority in two's complement.
pub data Operand : Type 0 where
  none flag mask priority : Operand

-- A row of the table: which of cpu, thread and lock an operation uses, what A and B may be, and what it asks for with them.
pub record Row : Type 0 where
  pub cpu : Bool
  pub thread : Bool
  pub lock : Bool
  pub a : Operand
  pub b : Operand
  pub asks : ℕ → ℕ → Operation

-- A row, its parts in that order.
abbrev pub row : Bool → Bool → Bool → Operand → Operand → (ℕ → ℕ → Operation) → Row
row cpu thread lock a b asks = record { cpu = cpu; thread = thread; lock = lock; a = a; b = b; asks = asks }

-- The row of a number that stands for no operation.
abbrev pub no_row : Row
no_row = row false false false none none (λ a b. Operation.Malformed)

-- The table's operations, 0 to 11, and 12 of 02's first request. By its second, A of an acquire says whether it is nested, and 5 is refused.
abbrev pub rows : List Row
rows =
    row true false false none none (λ a b. Operation.OnCpu CpuOperation.Up)
    ∷ row true false false none none (λ a b. Operation.OnCpu CpuOperation.Down)
    ∷ row true true false none none (λ a b. Operation.OnCpu CpuOperation.Put)
    ∷ row true true false none none (λ a b. Operation.OnCpu CpuOperation.Take)
    ∷ row true false true flag none (λ a b. Operation.OnLock (LockOperation.Acquire (eqb a 1)))
    ∷ no_row
    ∷ row true false true none none (λ a b. Operation.OnLock LockOperation.Release)
    ∷ row false true false mask mask (λ a b. Operation.OnThread (ThreadOperation.Mask a b))
    ∷ row true true false none none (λ a b. Operation.OnThread ThreadOperation.Pin)
    ∷ row false true false priority none (λ a b. Operation.OnThread (ThreadOperation.Priority (to_signed 31 a)))
    ∷ row true true false none none (λ a b. Operation.Ipi)
    ∷ row false false true none none (λ a b. Operation.Owner)
    ∷ row true true false none none (λ a b. Operation.Unwind)
    ∷ []

-- The row of an operation's number. Past the table stands no operation.
unfoldable pub row_of : ℕ → Row
row_of number = get_or rows number no_row

-- A used field is below its limit, and one that is not used is zero.
abbrev pub field_ok : Bool → ℕ → ℕ → Bool
field_ok used most x = ltb x (cond used most 1)

-- A or B is what the row says.
abbrev pub operand_ok : Operand → ℕ → Bool
operand_ok none x = eqb x 0
operand_ok flag x = ltb x 2
operand_ok mask x = true
operand_ok priority x = is_priority (to_signed 31 x)

-- Used fields in range (cpu below n, thread below 32, lock below 128, A of an acquire 0 or 1, A of a priority within -128..127), all else
-- zero.
unfoldable pub fits : ℕ → Row → Fields → Bool
fits n r f =
    field_ok r.cpu n f.cpu
    && field_ok r.thread thread_count f.thread
    && field_ok r.lock lock_count f.lock
    && operand_ok r.a f.a
    && operand_ok r.b f.b

-- The number kinds of a record's fields: a CPU's.
abbrev pub cpu_id : ℕ → CpuId
cpu_id c = record { 0 = c }

-- A thread's.
abbrev pub thread_id : ℕ → ThreadId
thread_id t = record { 0 = t }

-- A lock's.
abbrev pub lock_id : ℕ → LockId
lock_id l = record { 0 = l }

-- An operation with its numbers.
abbrev pub request : Operation → ℕ → ℕ → ℕ → Request
request operation c t l = record { operation = operation; cpu = cpu_id c; thread = thread_id t; lock = lock_id l }

-- Every number of a request is a place in its array of the machine.
pub record InArrays (r : Request) : Type 0 where
  pub cpu : r.cpu.0 < cpu_slots
  pub thread : r.thread.0 < thread_count
  pub lock : r.lock.0 < lock_count

-- What fails the form test.
abbrev pub malformed : Request
malformed = request Operation.Malformed 0 0 0

-- The request that a row makes of the fields.
abbrev pub carried : Row → Fields → Request
carried r f = request (r.asks f.a f.b) f.cpu f.thread f.lock

-- A record of that form carries its request; any other is malformed.
abbrev pub of_fields : ℕ → Fields → Request
of_fields n f = cond (eqb f.zero 0 && fits n (row_of f.operation) f) (carried (row_of f.operation) f) malformed

-- Exactly twelve bytes, on a setup that a machine can have.
unfoldable pub request_of : Setup → List ℕ → Request
request_of k bs = cond (setup_ok k && eqb (length bs) 12) (of_fields k.n (fields_of bs)) malformed

-- The twelve bytes of these fields.
abbrev pub packed : ℕ → ℕ → ℕ → ℕ → ℕ → ℕ → List ℕ
packed op cpu thread lock a b = ((op * 16 + cpu) ∷ thread ∷ lock ∷ 0 ∷ []) ++ (high_first 4 a ++ high_first 4 b)

-- The number, A and B of an operation. What is malformed has the first number past the table.
abbrev pub wire : Operation → ℕ × ℕ × ℕ
wire Operation.Malformed = (length rows, 0, 0)
wire (Operation.OnCpu CpuOperation.Up) = (0, 0, 0)
wire (Operation.OnCpu CpuOperation.Down) = (1, 0, 0)
wire (Operation.OnCpu CpuOperation.Put) = (2, 0, 0)
wire (Operation.OnCpu CpuOperation.Take) = (3, 0, 0)
wire (Operation.OnLock (LockOperation.Acquire nested)) = (4, cond nested 1 0, 0)
wire (Operation.OnLock LockOperation.Release) = (6, 0, 0)
wire (Operation.OnThread (ThreadOperation.Mask enable disable)) = (7, enable, disable)
wire (Operation.OnThread ThreadOperation.Pin) = (8, 0, 0)
wire (Operation.OnThread (ThreadOperation.Priority p)) = (9, from_signed 31 p, 0)
wire Operation.Ipi = (10, 0, 0)
wire Operation.Owner = (11, 0, 0)
wire Operation.Unwind = (12, 0, 0)

-- The one record that asks for a request.
unfoldable pub encode : Request → List ℕ
encode r =
    packed (wire r.operation).0 r.cpu.0 r.thread.0 r.lock.0 (wire r.operation).1 (wire r.operation).2

-- 01, "Log records", the column "reads; writes", row by row; and the row that 02 adds, request 1.
use Rattle.std.specs.Prelude.{List, [], ◌∷◌, ℕ}
use Rattle.order.specs.Clash.{Footprint}
use Rattle.spinlock.specs.declared.Operation.{Operation as LockOperation}
use Rattle.machine.specs.declared.Setup.{Setup}
use Rattle.record.specs.Record.{request_of}
use Rattle.record.specs.declared.CpuOperation.{CpuOperation}
use Rattle.record.specs.declared.ThreadOperation.{ThreadOperation}
use Rattle.record.specs.declared.Operation.{Operation}
use Rattle.record.specs.declared.Request.{Request}
use Rattle.operations.specs.Cells.{Cell, run, hold, thread, lock, every_run, every_lock}

-- The table, 0 to 3.
abbrev pub row_on_cpu : CpuOperation → ℕ → ℕ → Footprint Cell
row_on_cpu CpuOperation.Up c t = record { reads = []; writes = run c ∷ [] }
row_on_cpu CpuOperation.Down c t = record { reads = []; writes = run c ∷ [] }
row_on_cpu CpuOperation.Put c t = record { reads = []; writes = run c ∷ thread t ∷ [] }
row_on_cpu CpuOperation.Take c t = record { reads = hold c ∷ []; writes = run c ∷ thread t ∷ [] }

-- 4 and 6.
abbrev pub row_on_lock : LockOperation → ℕ → ℕ → Footprint Cell
row_on_lock (LockOperation.Acquire nested) c l = record { reads = run c ∷ []; writes = lock l ∷ hold c ∷ [] }
row_on_lock LockOperation.Release c l = record { reads = run c ∷ []; writes = lock l ∷ hold c ∷ [] }

-- 7, 8 and 9.
abbrev pub row_on_thread : ThreadOperation → ℕ → Footprint Cell
row_on_thread (ThreadOperation.Mask enable disable) t = record { reads = []; writes = thread t ∷ [] }
row_on_thread ThreadOperation.Pin t = record { reads = []; writes = thread t ∷ [] }
row_on_thread (ThreadOperation.Priority a) t = record { reads = []; writes = thread t ∷ [] }

-- The whole table, with 10, 11 and 12. A record that fails the form test touches no cell.
abbrev pub row_by : Operation → ℕ → ℕ → ℕ → Footprint Cell
row_by Operation.Malformed c t l = record { reads = []; writes = [] }
row_by (Operation.OnCpu op) c t l = row_on_cpu op c t
row_by (Operation.OnLock op) c t l = row_on_lock op c l
row_by (Operation.OnThread op) c t l = row_on_thread op t
row_by Operation.Ipi c t l = record { reads = every_run (thread t ∷ []); writes = [] }
row_by Operation.Owner c t l = record { reads = lock l ∷ []; writes = [] }
row_by Operation.Unwind c t l = record { reads = run c ∷ []; writes = hold c ∷ every_lock [] }

-- The row of a request, with the numbers of its CPU, thread and lock.
abbrev pub row : Request → Footprint Cell
row r = row_by r.operation r.cpu.0 r.thread.0 r.lock.0

-- The row of twelve bytes on a machine of this setup: which records fail the form test depends on the setup alone.
abbrev pub footprint : Setup → List ℕ → Footprint Cell
footprint s bytes = row (request_of s bytes)

-- Demand 3, rearrangement: every log on every machine, rearranged with the order of clashing records kept, gives each record the answer that
-- it had, and the same end machine. Assumes nothing.
use mathlib.Core.Path.{◌≡◌, refl, ap, sym, ◌∙◌}
use mathlib.Core.List.{List}
use Prim.Native.Nat.{ℕ, zero, suc}
use Rattle.error.specs.Answer.{Answer}
use Rattle.order.specs.Cells.{Op, after, reply}
use Rattle.order.specs.Clash.{Clash, cells_of}
use Rattle.order.proofs.Sequence.{Swap, Same, end, answer, end_last, rearrange}
use Rattle.order.proofs.Commute.{clash_free, after_shape}
use Rattle.spinlock.specs.declared.Operation.{Operation as LockOperation}
use Rattle.machine.specs.declared.Setup.{Setup}
use Rattle.machine.specs.declared.Machine.{Machine}
use Rattle.record.specs.Record.{request_of}
use Rattle.record.specs.declared.CpuOperation.{CpuOperation}
use Rattle.record.specs.declared.ThreadOperation.{ThreadOperation}
use Rattle.record.specs.declared.Operation.{Operation}
use Rattle.record.specs.declared.Request.{Request}
use Rattle.operations.specs.Cells.{machine_store}
use Rattle.operations.specs.Operations.{on_cpu, on_lock, on_thread, operation_by, operation}
use Rattle.operations.specs.Asked.{answered, next}
use Rattle.operations.specs.Log.{record_at, state_at, answer_at}
use Rattle.rearranged.specs.Clash.{row_on_cpu, row_on_lock, row_on_thread, row_by, row, footprint}
use Rattle.rearranged.specs.Rearranged.{Rearranged, SameRun}
use Rattle.rearranged.proofs.MachineStore.{Shape, shape, machine_laws}

-- An operation's own cells are those of its row in the table: of each family, and of every request.
cpu_row : (op : CpuOperation) (c t : ℕ) → cells_of (on_cpu op c t) ≡ row_on_cpu op c t
cpu_row CpuOperation.Up c t = refl
cpu_row CpuOperation.Down c t = refl
cpu_row CpuOperation.Put c t = refl
cpu_row CpuOperation.Take c t = refl

lock_row : (s : Setup) (op : LockOperation) (c l : ℕ) → cells_of (on_lock s op c l) ≡ row_on_lock op c l
lock_row s (LockOperation.Acquire nested) c l = refl
lock_row s LockOperation.Release c l = refl

thread_row : (s : Setup) (op : ThreadOperation) (c t : ℕ) → cells_of (on_thread s op c t) ≡ row_on_thread op t
thread_row s (ThreadOperation.Mask enable disable) c t = refl
thread_row s ThreadOperation.Pin c t = refl
thread_row s (ThreadOperation.Priority a) c t = refl

row_is_by : (s : Setup) (op : Operation) (c t l : ℕ) → cells_of (operation_by s op c t l) ≡ row_by op c t l
row_is_by s Operation.Malformed c t l = refl
row_is_by s (Operation.OnCpu op) c t l = cpu_row op c t
row_is_by s (Operation.OnLock op) c t l = lock_row s op c l
row_is_by s (Operation.OnThread op) c t l = thread_row s op c t
row_is_by s Operation.Ipi c t l = refl
row_is_by s Operation.Owner c t l = refl
row_is_by s Operation.Unwind c t l = refl

pub row_is : (s : Setup) (r : Request) → cells_of (operation s r) ≡ row r
row_is s r = row_is_by s r.operation r.cpu.0 r.thread.0 r.lock.0

-- A record's operation and its step on the machines of one shape.
module _ (s : Shape) where
  abbrev asks : List ℕ → Op machine_store (Answer ℕ)
  asks bytes = operation s.setup (request_of s.setup bytes)

  abbrev steps : Machine → List ℕ → Machine
  steps m bytes = after machine_store (Answer ℕ) m (asks bytes)

  abbrev replies : Machine → List ℕ → Answer ℕ
  replies m bytes = reply machine_store (Answer ℕ) m (asks bytes)

  abbrev Clashes : List ℕ → List ℕ → Type 0
  Clashes a b = Clash (footprint s.setup a) (footprint s.setup b)

  apart : (a b : List ℕ) → ¬ (Clashes a b) → ¬ (Clash (cells_of (asks a)) (cells_of (asks b)))
  apart a b free = rw (row_is s.setup (request_of s.setup a), row_is s.setup (request_of s.setup b)) free

  swapped : (m : Machine) (a b : List ℕ) → Unit {0} → ¬ (Clashes b a) → Swap steps replies m a b
  swapped m a b i free =
      let both : Swap (after machine_store (Answer ℕ)) (reply machine_store (Answer ℕ)) m (asks a) (asks b) =
      clash_free machine_store (Answer ℕ) Shape shape machine_laws m (asks a) (asks b) (apart b a free) in
      record { state = both.state; first = both.first; second = both.second }

  end_shape : (k : ℕ) (m : Machine) (f : ℕ → List ℕ) → shape (end steps replies m f k) ≡ shape m
  end_shape zero m f = refl
  end_shape (suc k) m f =
      end_shape k (steps m (f 0)) (λ i. f (suc i)) ∙ after_shape machine_store (Answer ℕ) Shape shape machine_laws (asks (f 0)) m

-- The runner's states and answers are those of the sequence of its records.
next_is : (s : Shape) (m : Machine) (bytes : List ℕ) → shape m ≡ s → next m bytes ≡ steps s m bytes
unfolding next
next_is s m bytes e = ap (λ x. steps x m bytes) e

answered_is : (s : Shape) (m : Machine) (bytes : List ℕ) → shape m ≡ s → answered m bytes ≡ replies s m bytes
unfolding answered
answered_is s m bytes e = ap (λ x. replies x m bytes) e

module _ (m : Machine) (log : List ℕ) where
  states : (k : ℕ) → state_at m log k ≡ end (steps (shape m)) (replies (shape m)) m (record_at log) k
  unfolding state_at
  states zero = refl
  states (suc k) =
      ap (λ x. next x (record_at log k)) (states k)
      ∙ next_is (shape m) _ (record_at log k) (end_shape (shape m) k m (record_at log))
      ∙ sym (end_last (steps (shape m)) (replies (shape m)) k m (record_at log))

  answers : (k : ℕ) → answer_at m log k ≡ answer (steps (shape m)) (replies (shape m)) m (record_at log) k
  answers k =
      ap (λ x. answered x (record_at log k)) (states k)
      ∙ answered_is (shape m) _ (record_at log k) (end_shape (shape m) k m (record_at log))

-- The theorem.
pub rearranged_log : (m : Machine) (count : ℕ) (old new : List ℕ) (π : ℕ → ℕ) → Rearranged m.setup count old new π
    → SameRun m count old new π
rearranged_log m count old new π r =
    let same : Same (steps (shape m)) (replies (shape m)) count m (record_at old) (record_at new) π =
    rearrange (steps (shape m)) (replies (shape m)) (λ k. Unit {0}) (λ k bytes i. tt) (Clashes (shape m)) (swapped (shape m))
    count m tt (record_at old) (record_at new) π r in
    record {
      state = states m new count ∙ same.state ∙ sym (states m old count);
      each = λ k h. answers m new k ∙ same.each k h ∙ sym (answers m old (π k));
    }

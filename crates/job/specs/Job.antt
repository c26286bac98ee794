-- What the theorems for a job speak of: owning nothing, holding a lock, an accepted record.
use Rattle.std.specs.Prelude.{◌≡◌, ◌≢◌, true, false, List, ℕ, ◌<◌, Some}
use Rattle.error.specs.Codes.{is_ok}
use Rattle.words.specs.Tag.{cpu_of, thread_of}
use Rattle.spinlock.specs.declared.Operation.{Operation as LockOperation}
use Rattle.machine.specs.State.{lock_count, tag_bits, thread_word, names, cpu_at, lock_at}
use Rattle.machine.specs.declared.CpuId.{CpuId}
use Rattle.machine.specs.declared.LockId.{LockId}
use Rattle.machine.specs.declared.Machine.{Machine}
use Rattle.record.specs.Record.{request, request_of}
use Rattle.record.specs.declared.Operation.{Operation}
use Rattle.record.specs.declared.Request.{Request}
use Rattle.operations.specs.Asked.{answered, next}

-- No lock's record has the thread as its owner, and no lock's word is made from its thread word.
pub record OwnsNothing (m : Machine) (t : ℕ) : Type 0 where
  pub owner : (l : ℕ) → l < lock_count → (lock_at m l).state.owner ≢ Some t
  pub word : (l : ℕ) → l < lock_count → thread_of (tag_bits m.setup) (lock_at m l).word ≢ thread_word m.setup t

-- No lock's word names the CPU, and it holds none.
pub record HoldsNothing (m : Machine) (c : ℕ) : Type 0 where
  pub word : (l : ℕ) → l < lock_count → names m.setup (lock_at m l).word c ≡ false
  pub hold : (cpu_at m c).hold ≡ 0

-- CPU c runs thread t, and lock l's word names that CPU.
pub record Holder (m : Machine) (l c t : ℕ) : Type 0 where
  pub thread : (cpu_at m c).run.current ≡ Some (record { 0 = t })
  pub cpu : cpu_of (tag_bits m.setup) (lock_at m l).word ≡ c

-- Twelve bytes ask this of the machine, and the answer is OK.
pub record Accepted (m : Machine) (bytes : List ℕ) (r : Request) : Type 0 where
  pub asks : request_of m.setup bytes ≡ r
  pub ok : is_ok (answered m bytes).code ≡ true

-- A record that releases lock l from CPU c is accepted, and gives back the machine m. (A release uses no thread: its number z is any.)
abbrev pub Gives : Machine → CpuId → LockId → Machine → Type 0
Gives m c l x =
    (bytes : List ℕ) (z : ℕ) → request_of m.setup bytes ≡ request (Operation.OnLock LockOperation.Release) c.0 z l.0
    → (next x bytes ≡ m) × (is_ok (answered x bytes).code ≡ true)

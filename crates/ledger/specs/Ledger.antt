-- Demand 3, the ledger: what is counted. A count is a function of the setup, of the log's bytes and of the answer bytes; no machine is in it.
use Rattle.std.specs.Prelude.{◌≡◌, Bool, false, cond, List, ℕ, zero, suc, ◌+◌, ◌-◌, ◌<◌, eqb}
use Rattle.error.specs.Codes.{is_ok}
use Rattle.answers.specs.Answer.{decode_answer}
use Rattle.words.specs.Tag.{cpu_of}
use Rattle.spinlock.specs.declared.Operation.{Operation as LockOperation}
use Rattle.machine.specs.State.{cpu_slots, lock_count, tag_bits, cpu_at, lock_at, fresh_threads, fresh_machine}
use Rattle.machine.specs.declared.Setup.{Setup}
use Rattle.machine.specs.declared.Machine.{Machine}
use Rattle.record.specs.Record.{request_of}
use Rattle.record.specs.declared.Operation.{Operation}
use Rattle.record.specs.declared.Request.{Request}
use Rattle.operations.specs.Log.{record_at}
use Rattle.rearranged.specs.Rearranged.{place}

-- An acquire (4) or a release (6).
pub data Kind : Type 0 where
  acquire release : Kind

-- Which of the two an operation on a lock is: a plain acquire and a nested one are both an acquire.
abbrev pub kind_of : LockOperation → Kind
kind_of (LockOperation.Acquire nested) = acquire
kind_of LockOperation.Release = release

-- What a record asks of locks: an acquire or a release, by a CPU, of a lock; an unwind (12) by a CPU; or something else.
pub data Call : Type 0 where
  called : (kind : Kind) (cpu lock : ℕ) → Call
  unwound : (cpu : ℕ) → Call
  other : Call

-- What an operation asks of locks: those on a lock, an unwind, and no other.
abbrev pub call_by : Operation → ℕ → ℕ → Call
call_by Operation.Malformed c l = other
call_by (Operation.OnCpu op) c l = other
call_by (Operation.OnLock op) c l = called (kind_of op) c l
call_by (Operation.OnThread op) c l = other
call_by Operation.Ipi c l = other
call_by Operation.Owner c l = other
call_by Operation.Unwind c l = unwound c

-- What a request asks of locks.
abbrev pub call_of : Request → Call
call_of r = call_by r.operation r.cpu.0 r.lock.0

-- What record k of a log asks of locks, on a machine of this setup.
abbrev pub call_at : Setup → List ℕ → ℕ → Call
call_at s log k = call_of (request_of s (record_at log k))

-- Record k was accepted: the eight bytes at its place in the answer buffer have the code OK.
abbrev pub accepted_at : List ℕ → ℕ → Bool
accepted_at answers k = is_ok (decode_answer (place answers k)).code

-- Whose book is kept: a lock's, or a CPU's.
pub data Book : Type 0 where
  ofLock ofCpu : ℕ → Book

-- A call by this CPU of this lock goes into this book.
abbrev pub mine : Book → ℕ → ℕ → Bool
mine (ofLock l) cpu lock = eqb lock l
mine (ofCpu c) cpu lock = eqb cpu c

-- 1 for an acquire, and 1 for a release.
abbrev pub up : Kind → ℕ
up acquire = 1
up release = 0

abbrev pub down : Kind → ℕ
down acquire = 0
down release = 1

-- Where the last accepted acquire came from: nowhere yet, or a CPU.
pub data Last : Type 0 where
  nobody : Last
  from : ℕ → Last

-- It came from this CPU.
abbrev pub is_from : Last → ℕ → Bool
is_from nobody cpu = false
is_from (from d) cpu = eqb d cpu

-- From whom it came after one call more.
abbrev pub last_by : Kind → ℕ → Last → Last
last_by acquire cpu by = from cpu
last_by release cpu by = by

-- The stand of a book: the acquires and the releases that were posted to it, and who acquired last.
pub record Stand : Type 0 where
  pub acquires : ℕ
  pub releases : ℕ
  pub by : Last

-- The stand after one call more.
abbrev pub entered : Kind → ℕ → Stand → Stand
entered kind cpu stand =
    record { acquires = stand.acquires + up kind; releases = stand.releases + down kind; by = last_by kind cpu stand.by }

-- What a book stands at.
abbrev pub stood : Stand → ℕ
stood stand = stand.acquires - stand.releases

-- An unwind by this CPU closes the book: a lock's if its last accepted acquire came from the CPU, and the CPU's own.
abbrev pub closes : Book → ℕ → Stand → Bool
closes (ofLock l) cpu stand = is_from stand.by cpu
closes (ofCpu c) cpu stand = eqb cpu c

-- A call is posted to the books that it goes into. An unwind counts as as many releases as a book that it closes then stood at. Anything else is
-- posted to none.
abbrev pub posted : Book → Call → Stand → Stand
posted book (called kind cpu lock) stand = cond (mine book cpu lock) (entered kind cpu stand) stand
posted book (unwound cpu) stand =
    record { acquires = stand.acquires; releases = stand.releases + cond (closes book cpu stand) (stood stand) 0; by = stand.by }
posted book other stand = stand

-- A record is posted if it was accepted.
abbrev pub settled : Book → Bool → Call → Stand → Stand
settled book accepted call stand = cond accepted (posted book call stand) stand

-- The stand of a book after the first k records, from an opening stand: one fold over the log's bytes and the answer bytes.
unfoldable pub stand_after : Book → Setup → List ℕ → List ℕ → Stand → ℕ → Stand
stand_after book s log answers opening zero = opening
stand_after book s log answers opening (suc k) =
    settled book (accepted_at answers k) (call_at s log k) (stand_after book s log answers opening k)

-- A book in which nothing stands.
abbrev pub empty_stand : Stand
empty_stand = record { acquires = 0; releases = 0; by = nobody }

-- Accepted acquires among the first k records: of a book, the setup, the log's bytes and the answer bytes.
abbrev pub acquires : Book → Setup → List ℕ → List ℕ → ℕ → ℕ
acquires book s log answers k = (stand_after book s log answers empty_stand k).acquires

-- Accepted releases among the first k records.
abbrev pub releases : Book → Setup → List ℕ → List ℕ → ℕ → ℕ
releases book s log answers k = (stand_after book s log answers empty_stand k).releases

-- What a book's owner has: a lock its depth, a CPU its hold.
abbrev pub balance : Machine → Book → ℕ
balance m (ofLock l) = (lock_at m l).state.nest_count
balance m (ofCpu c) = (cpu_at m c).hold

-- What the owner has and the releases are together the acquires.
abbrev pub Balanced : Machine → Book → Stand → Type 0
Balanced m book stand = balance m book + stand.releases ≡ stand.acquires

-- Who acquired last, of a machine's lock: the CPU in its word, and nobody if the word is 0.
abbrev pub last_of : Machine → Book → Last
last_of m (ofLock l) = cond (eqb (lock_at m l).word 0) nobody (from (cpu_of (tag_bits m.setup) (lock_at m l).word))
last_of m (ofCpu c) = nobody

-- The stand with which a machine's book is opened: what its owner has counts as acquired.
abbrev pub opening_of : Machine → Book → Stand
opening_of m book = record { acquires = balance m book; releases = 0; by = last_of m book }

-- There is such a lock, or such a CPU.
abbrev pub InBooks : Book → Type 0
InBooks (ofLock l) = l < lock_count
InBooks (ofCpu c) = c < cpu_slots

-- The fresh machine of a setup.
abbrev pub fresh_of : Setup → Machine
fresh_of s = fresh_machine s (fresh_threads s)

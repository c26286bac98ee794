-- The ledger of 01: from a fresh machine of either pin-only setting, of either width and any number of CPUs, after every prefix of every log that
-- the runner runs. The counts are of the setup, the log's bytes and the bytes that the run leaves in the answer buffer. A fresh machine's books
-- are at 0; the rest is `records_books`. Assumes nothing.
use mathlib.Core.Path.{◌≡◌, ap}
use mathlib.Core.Bool.{true}
use mathlib.Core.List.{List}
use Prim.Native.Nat.{ℕ, ◌+◌, ◌/◌, ◌^◌, ◌≤◌}
use native.Mathlib.Omega.{arith}
use lib.ListN.{length, get_or-replicate}
use Rattle.error.specs.Codes.{is_ok}
use Rattle.machine.specs.State.{cpu_slots, lock_count, tag_bits, no_cpu, fresh_cpu, free_lock, fresh_machine}
use Rattle.machine.specs.declared.Setup.{Setup}
use Rattle.machine.specs.declared.Cpu.{Cpu}
use Rattle.machine.specs.declared.Lock.{Lock}
use Rattle.machine.specs.declared.Machine.{Machine}
use Rattle.wellformed.specs.WellFormed.{well_formed}
use Rattle.operations.specs.Log.{state_at}
use Rattle.runner.specs.Run.{ran, ran_room}
use Rattle.operations.proofs.Lengths.{fresh_lengths}
use Rattle.kept.proofs.Fresh.{fresh_formed}
use Rattle.kept.proofs.Laws.{states_keep}
use Rattle.ledger.specs.Ledger.{Book, ofLock, ofCpu, empty_stand, acquires, releases, balance, InBooks, fresh_of}
use Rattle.ledger.proofs.Answers.{bytes_tell}
use Rattle.ledger.proofs.Stands.{Stands}
use Rattle.ledger.proofs.Laws.{records_books}

-- A fresh machine's books are at 0.
fresh_balance : (s : Setup) (book : Book) → InBooks book → balance (fresh_of s) book ≡ 0
unfolding fresh_machine
fresh_balance s (ofLock l) b = ap (λ (x : Lock). x.state.nest_count) (get_or-replicate lock_count l free_lock free_lock b)
fresh_balance s (ofCpu c) b = ap (λ (x : Cpu). x.hold) (get_or-replicate cpu_slots c fresh_cpu no_cpu b)

-- An empty book is its own.
fresh_stands : (s : Setup) (book : Book) → InBooks book → Stands (fresh_of s) book empty_stand
unfolding fresh_machine
fresh_stands s (ofLock l) b =
    let none = fresh_balance s (ofLock l) b in record { total = rw none; last = λ deep. absurd (omega (arith, none)) }
fresh_stands s (ofCpu c) b = record { total = rw (fresh_balance s (ofCpu c) b); last = tt }

-- After the first k records: a lock's depth and the accepted releases of it are together the accepted acquires of it, and a CPU's hold and the
-- accepted releases by it are together the accepted acquires by it.
pub ledger : (s : Setup) → 1 ≤ s.n → s.n ≤ 2 ^ tag_bits s → (log room : List ℕ)
    → is_ok (ran (fresh_of s) log (length room)).code ≡ true → (k : ℕ) → k ≤ length log / 12 → (book : Book) → InBooks book
    → balance (state_at (fresh_of s) log k) book + releases book s log (ran_room (fresh_of s) log room) k
    ≡ acquires book s log (ran_room (fresh_of s) log room) k
unfolding fresh_machine
ledger s some few log room ok k h book b =
    (records_books (fresh_of s) (fresh_lengths s) (fresh_formed s some few) log (ran_room (fresh_of s) log room) (length log / 12)
    (bytes_tell (fresh_of s) log room ok) k h book b empty_stand (fresh_stands s book b)).total

-- At the end, of the machine that the run hands back.
run_end : (m : Machine) (log : List ℕ) (room : ℕ) → is_ok (ran m log room).code ≡ true → (ran m log room).value ≡ state_at m log (length log / 12)
unfolding ran
run_end m log room ok = rw ok

pub ledger_end : (s : Setup) → 1 ≤ s.n → s.n ≤ 2 ^ tag_bits s → (log room : List ℕ)
    → is_ok (ran (fresh_of s) log (length room)).code ≡ true → (book : Book) → InBooks book
    → balance (ran (fresh_of s) log (length room)).value book
    + releases book s log (ran_room (fresh_of s) log room) (length log / 12)
    ≡ acquires book s log (ran_room (fresh_of s) log room) (length log / 12)
ledger_end s some few log room ok book b =
    rw (run_end (fresh_of s) log (length room) ok) (ledger s some few log room ok (length log / 12) (omega arith) book b)

-- And the machine is well-formed: hold is the sum of the depths of the locks whose word names the CPU, and record and word agree.
pub prefix_formed : (s : Setup) → 1 ≤ s.n → s.n ≤ 2 ^ tag_bits s → (log : List ℕ) (k : ℕ) → well_formed (state_at (fresh_of s) log k) ≡ true
prefix_formed s some few log k = (states_keep (fresh_of s) (fresh_lengths s) log k (fresh_formed s some few)).1

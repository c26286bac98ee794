-- From a fresh machine, after every prefix of every log that is run: a lock's depth and the accepted releases of it are together the accepted
-- acquires of it, and a CPU's hold and the accepted releases by it are together the accepted acquires by it. An unwind counts as the releases that
-- it makes: of a lock whose last accepted acquire came from its CPU as many as the ledger stood at, of the CPU its whole hold. So no level of a
-- lock is ever made up or lost. They are counted from the log's bytes and the answer bytes alone. Record and word agree all along, and a CPU's
-- hold is the sum of the depths of the locks whose word names it: the machine is well-formed after every prefix.
--
-- `acquires`, `releases`, `balance`, the books and the fresh machine of a setup stand in ledger/specs/Ledger.antt, `ran_room` (the answer bytes)
-- in runner/specs/Run.antt, `state_at` in operations/specs/Log.antt. The proofs are in ledger/proofs/Fresh.antt. Assumes nothing.
use mathlib.Core.Path.{◌≡◌}
use mathlib.Core.Bool.{true}
use mathlib.Core.List.{List}
use Prim.Native.Nat.{ℕ, ◌+◌, ◌/◌, ◌^◌, ◌≤◌}
use lib.ListN.{length}
use Rattle.error.specs.Codes.{is_ok}
use Rattle.machine.specs.State.{tag_bits}
use Rattle.machine.specs.declared.Setup.{Setup}
use Rattle.wellformed.specs.WellFormed.{well_formed}
use Rattle.operations.specs.Log.{state_at}
use Rattle.runner.specs.Run.{ran, ran_room}
use Rattle.ledger.specs.Ledger.{Book, acquires, releases, balance, InBooks, fresh_of}
use Rattle.ledger.proofs.Fresh as Fresh

module _ (s : Setup) (some : 1 ≤ s.n) (few : s.n ≤ 2 ^ tag_bits s) (log : List ℕ) (k : ℕ) where
  -- A book is a lock's or a CPU's; its balance is the lock's depth, or the CPU's hold.
  pub ledger : (room : List ℕ) → is_ok (ran (fresh_of s) log (length room)).code ≡ true → k ≤ length log / 12
      → (book : Book) → InBooks book
      → balance (state_at (fresh_of s) log k) book + releases book s log (ran_room (fresh_of s) log room) k
      ≡ acquires book s log (ran_room (fresh_of s) log room) k
  ledger room ok h book b = Fresh.ledger s some few log room ok k h book b

  pub agreed : well_formed (state_at (fresh_of s) log k) ≡ true
  agreed = Fresh.prefix_formed s some few log k

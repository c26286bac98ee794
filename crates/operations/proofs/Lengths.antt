-- The lists of a machine have the lengths of its arrays, and every operation keeps them: storing into a cell changes no length.
-- Assumes nothing.
use mathlib.Core.Path.{◌≡◌, refl, ◌∙◌}
use mathlib.Core.List.{List, [], ◌∷◌}
use Prim.Native.Nat.{ℕ, zero, suc}
use lib.ListN.{length, length-set}
use Rattle.error.specs.Answer.{Answer}
use Rattle.order.specs.Outcome.{Outcome, refuse, accept}
use Rattle.order.specs.Cells.{Op, Vals, store, commit, result, after}
use Rattle.machine.specs.State.{cpu_slots, thread_count, lock_count, fresh_threads, fresh_machine}
use Rattle.machine.specs.declared.Setup.{Setup}
use Rattle.machine.specs.declared.Machine.{Machine}
use Rattle.operations.specs.Cells.{Cell, run, hold, thread, lock, Val, put, machine_store}
use Rattle.operations.specs.Asked.{asked, next}
use Rattle.operations.specs.Log.{record_at, state_at}

-- 16 CPU slots, 32 threads and 128 locks.
pub record Lengths (m : Machine) : Type 0 where
  pub cpus : length m.cpus ≡ cpu_slots
  pub threads : length m.threads ≡ thread_count
  pub locks : length m.locks ≡ lock_count

-- A fresh machine has them.
pub fresh_lengths : (k : Setup) → Lengths (fresh_machine k (fresh_threads k))
unfolding fresh_machine
fresh_lengths k = record { cpus = refl; threads = refl; locks = refl }

put_lengths : (c : Cell) (v : Val c) (m : Machine) → Lengths m → Lengths (put c v m)
put_lengths (run c) v m s = record { cpus = length-set m.cpus c _ ∙ s.cpus; threads = s.threads; locks = s.locks }
put_lengths (hold c) v m s = record { cpus = length-set m.cpus c _ ∙ s.cpus; threads = s.threads; locks = s.locks }
put_lengths (thread t) v m s = record { cpus = s.cpus; threads = length-set m.threads t v ∙ s.threads; locks = s.locks }
put_lengths (lock l) v m s = record { cpus = s.cpus; threads = s.threads; locks = length-set m.locks l v ∙ s.locks }

store_lengths : (cs : List Cell) (vs : Vals machine_store cs) (m : Machine) → Lengths m → Lengths (store machine_store cs vs m)
store_lengths [] vs m s = s
store_lengths (c ∷ cs) vs m s = put_lengths c vs.0 (store machine_store cs vs.1 m) (store_lengths cs vs.1 m s)

commit_lengths : (cs : List Cell) (o : Outcome (Answer ℕ) (Vals machine_store cs)) (m : Machine) → Lengths m
    → Lengths (commit machine_store (Answer ℕ) cs o m)
commit_lengths cs (refuse a) m s = s
commit_lengths cs (accept a vs) m s = store_lengths cs vs m s

-- Every operation keeps the lengths.
pub after_lengths : (m : Machine) (o : Op machine_store (Answer ℕ)) → Lengths m → Lengths (after machine_store (Answer ℕ) m o)
after_lengths m o s = commit_lengths o.writes (result machine_store (Answer ℕ) o m) m s

-- So does every record.
pub next_lengths : (m : Machine) (bytes : List ℕ) → Lengths m → Lengths (next m bytes)
unfolding next
next_lengths m bytes s = after_lengths m (asked m bytes) s

-- So they are kept by the first k records of a log.
pub state_lengths : (m : Machine) (log : List ℕ) (k : ℕ) → Lengths m → Lengths (state_at m log k)
unfolding state_at
state_lengths m log zero s = s
state_lengths m log (suc k) s = next_lengths (state_at m log k) (record_at log k) (state_lengths m log k s)

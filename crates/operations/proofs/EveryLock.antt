-- Every lock at once: what a function of all of them is fed at a machine with 128 locks, and what storing them all makes. Assumes nothing.
use mathlib.Core.Path.{◌≡◌, refl, sym, ap, ◌∙◌}
use mathlib.Core.List.{List, [], ◌∷◌, ◌++◌}
use Prim.Native.Nat.{ℕ, zero, suc, ◌≤◌}
use native.Mathlib.Omega.{arith}
use lib.ListN.{length, take, drop, get_or}
use lib.Seq.{take-suc, take_all}
use Rattle.order.specs.Cells.{Vals, store}
use Rattle.order.specs.Every.{every, spread}
use Rattle.order.proofs.Every.{values}
use Rattle.order.proofs.Lists.{set_next, set_all}
use Rattle.machine.specs.State.{lock_count, free_lock, lock_at}
use Rattle.machine.specs.declared.Lock.{Lock}
use Rattle.machine.specs.declared.Machine.{Machine}
use Rattle.operations.specs.Cells.{Cell, lock, set_lock, machine_store, every_lock, as_locks}

-- A machine with other locks.
abbrev pub set_locks : Machine → List Lock → Machine
set_locks m locks = record { setup = m.setup; cpus = m.cpus; threads = m.threads; locks = locks }

locks_below : (m : Machine) (k : ℕ) → k ≤ length m.locks → values machine_store lock (λ _ x. x) m k ≡ take k m.locks
unfolding values
locks_below m zero h = refl
locks_below m (suc k) h =
    ap (λ (locks : List Lock). locks ++ (lock_at m k ∷ [])) (locks_below m k (omega arith)) ∙ sym (take-suc m.locks k free_lock h)

-- The locks that are fed are the machine's.
pub locks_fed : (m : Machine) → length m.locks ≡ lock_count → values machine_store lock (λ _ x. x) m lock_count ≡ m.locks
locks_fed m all = locks_below m lock_count (omega arith) ∙ take_all lock_count m.locks (omega arith)

module _ (rest : List Cell) (others : Vals machine_store rest) (new : List Lock) (m : Machine) where
  -- The machine with the rest stored.
  abbrev with_rest : Machine
  with_rest = store machine_store rest others m

  store_below : (k : ℕ) → k ≤ length new → k ≤ length with_rest.locks
      → store machine_store (every machine_store lock k rest) (spread machine_store lock (λ _ x. x) free_lock k rest new others) m
      ≡ set_locks with_rest (take k new ++ drop k with_rest.locks)
  unfolding every spread
  store_below zero h g = refl
  store_below (suc k) h g =
      ap (λ (x : Machine). set_lock x k (get_or new k free_lock)) (store_below k (omega arith) (omega arith))
      ∙ ap (set_locks with_rest) (set_next free_lock new with_rest.locks k h g)

  -- The locks that are stored are then the machine's.
  pub locks_stored : length new ≡ lock_count → length with_rest.locks ≡ lock_count
      → store machine_store (every_lock rest) (as_locks rest new others) m ≡ set_locks with_rest new
  locks_stored e g =
      store_below lock_count (omega arith) (omega arith) ∙ ap (set_locks with_rest) (set_all free_lock new with_rest.locks lock_count e g)

-- 01, "The machine", "Cells": for each CPU a run cell and a hold cell; each lock; each thread.
use Rattle.std.specs.Prelude.{ℕ, List, ◌++◌, set}
use Rattle.order.specs.Cells.{Store, Fn, Vals}
use Rattle.order.specs.Every.{every, gather, collect, spread}
use Rattle.machine.specs.State.{cpu_slots, lock_count, free_lock, cpu_at, thread_at, lock_at}
use Rattle.machine.specs.declared.Run.{Run}
use Rattle.machine.specs.declared.Cpu.{Cpu}
use Rattle.machine.specs.declared.Thread.{Thread}
use Rattle.machine.specs.declared.Lock.{Lock}
use Rattle.machine.specs.declared.Machine.{Machine}

-- A cell, by the number of its CPU, thread or lock.
pub data Cell : Type 0 where
  run hold thread lock : ℕ → Cell
  deriving Discrete as Cell-discrete

-- What a cell holds.
abbrev pub Val : Cell → Type 0
Val (run c) = Run
Val (hold c) = ℕ
Val (thread t) = Thread
Val (lock l) = Lock

-- A machine with another CPU, thread or lock at a place.
abbrev pub set_cpu : Machine → ℕ → Cpu → Machine
set_cpu m c v = record { setup = m.setup; cpus = set m.cpus c v; threads = m.threads; locks = m.locks }

abbrev pub set_thread : Machine → ℕ → Thread → Machine
set_thread m t v = record { setup = m.setup; cpus = m.cpus; threads = set m.threads t v; locks = m.locks }

abbrev pub set_lock : Machine → ℕ → Lock → Machine
set_lock m l v = record { setup = m.setup; cpus = m.cpus; threads = m.threads; locks = set m.locks l v }

-- What a machine has in a cell.
abbrev pub get : (c : Cell) → Machine → Val c
get (run c) m = (cpu_at m c).run
get (hold c) m = (cpu_at m c).hold
get (thread t) m = thread_at m t
get (lock l) m = lock_at m l

-- The machine with another value in a cell.
abbrev pub put : (c : Cell) → Val c → Machine → Machine
put (run c) v m = set_cpu m c (record { run = v; hold = (cpu_at m c).hold })
put (hold c) v m = set_cpu m c (record { run = (cpu_at m c).run; hold = v })
put (thread t) v m = set_thread m t v
put (lock l) v m = set_lock m l v

abbrev pub machine_store : Store
machine_store = record { Cell = Cell; Val = Val; M = Machine; get = get; put = put }

-- Every run cell, and then the rest.
abbrev pub every_run : List Cell → List Cell
every_run rest = every machine_store run cpu_slots rest

-- A function of every run cell's value, CPU 0's first, and of the values of the rest and of more cells.
abbrev pub of_runs : (X : Type 0) (rest more : List Cell) → (List Run → Fn machine_store (rest ++ more) X) → Fn machine_store (every_run rest ++ more) X
of_runs X rest more f = gather machine_store X run (λ _ r. r) cpu_slots rest more f

-- Every lock, and then the rest.
abbrev pub every_lock : List Cell → List Cell
every_lock rest = every machine_store lock lock_count rest

-- A function of every lock, lock 0 first, and of the values of the rest.
abbrev pub of_locks : (X : Type 0) (rest : List Cell) → (List Lock → Fn machine_store rest X) → Fn machine_store (every_lock rest) X
of_locks X rest f = collect machine_store X lock (λ _ k. k) lock_count rest f

-- These locks, lock 0 first, as new values for every lock, and then the values for the rest.
abbrev pub as_locks : (rest : List Cell) → List Lock → Vals machine_store rest → Vals machine_store (every_lock rest)
as_locks rest locks others = spread machine_store lock (λ _ k. k) free_lock lock_count rest locks others

-- Worked examples, closed by computing: machines that are well-formed, and for each clause a machine that fails in that clause alone.
-- Assumes nothing.
use Rattle.std.specs.Prelude.{None, Some}
use mathlib.Core.Path.{◌≡◌, refl}
use mathlib.Core.Bool.{Bool, true, false}
use mathlib.Core.List.{List, [], ◌∷◌, map}
use Prim.Native.Nat.{ℕ}
use lib.Count.{ones}
use lib.IntN.{pos}
use lib.ListN.{set, replicate}
use Rattle.words.specs.Bit.{bit}
use Rattle.words.specs.Below.{all_below}
use Rattle.spinlock.specs.Lock.{free_record, valid_record}
use Rattle.machine.specs.State.{cpu_slots, thread_count, lock_count, is_priority, idle_run, thread_mask, fresh_machine, fresh_threads}
use Rattle.machine.specs.declared.Cpu.{Cpu}
use Rattle.machine.specs.declared.Thread.{Thread}
use Rattle.machine.specs.declared.Lock.{Lock}
use Rattle.machine.specs.declared.Setup.{Setup}
use Rattle.machine.specs.declared.Machine.{Machine}
use Rattle.wellformed.specs.WellFormed.{
  sum_below,
  size_ok,
  slot_ok,
  lock_ok,
  hold_ok,
  current_ok,
  place_ok,
  idle_ok,
  priority_ok,
  mask_ok,
  pin_ok,
  well_formed,
}

-- The ten tests: 01's in its order, and the one of 02, request 5.
abbrev clauses : Machine → List Bool
clauses m =
    size_ok m
    ∷ all_below (slot_ok m) cpu_slots
    ∷ all_below (lock_ok m) lock_count
    ∷ all_below (hold_ok m) cpu_slots
    ∷ all_below (current_ok m) cpu_slots
    ∷ all_below (place_ok m) thread_count
    ∷ all_below (idle_ok m) cpu_slots
    ∷ all_below (priority_ok m) thread_count
    ∷ all_below (mask_ok m) thread_count
    ∷ all_below (pin_ok m) thread_count
    ∷ []

-- The fresh machine of n CPUs, with narrow tags or with wide ones.
abbrev fresh_by : Bool → ℕ → Bool → Machine
fresh_by wide n pinOnly = let k : Setup = record { n = n; pin_only = pinOnly; wide = wide } in fresh_machine k (fresh_threads k)

abbrev fresh : ℕ → Bool → Machine
fresh n pinOnly = fresh_by false n pinOnly

-- A machine with one cell changed: CPU c, thread 0, or lock 0.
abbrev with_cpu : ℕ → Cpu → Machine → Machine
with_cpu c v m = record { setup = m.setup; cpus = set m.cpus c v; threads = m.threads; locks = m.locks }

abbrev with_thread : Thread → Machine → Machine
with_thread v m = record { setup = m.setup; cpus = m.cpus; threads = set m.threads 0 v; locks = m.locks }

abbrev with_lock : Lock → Machine → Machine
with_lock v m = record { setup = m.setup; cpus = m.cpus; threads = m.threads; locks = set m.locks 0 v }

-- ---- well-formed machines

-- Thread 0 runs on CPU 0 and holds lock 0 at depth 2. The word is its thread word 4 with CPU 0.
abbrev holding : Machine
holding =
    with_cpu 0 (record { run = record { active = true; current = Some (record { 0 = 0 }); priority = pos 0 }; hold = 2 })
    (with_thread (record { mask = 1; priority = pos 0; place = Some (record { 0 = 0 }) })
    (with_lock (record { state = record { owner = Some 0; nest_count = 2; irq_saved = true }; word = 4 }) (fresh 1 true)))

-- The same on CPU 15 of a wide machine. The word is the thread word 16 with CPU 15.
abbrev holding_on15 : Machine
holding_on15 =
    with_cpu 15 (record { run = record { active = true; current = Some (record { 0 = 0 }); priority = pos 0 }; hold = 2 })
    (with_thread (record { mask = 0x8000; priority = pos 0; place = Some (record { 0 = 15 }) })
    (with_lock (record { state = record { owner = Some 0; nest_count = 2; irq_saved = true }; word = 31 }) (fresh_by true 16 true)))

pub these_are_well_formed :
    map well_formed
    (fresh 1 false ∷ fresh 1 true
    ∷ fresh 2 false ∷ fresh 2 true
    ∷ fresh 3 false ∷ fresh 3 true
    ∷ fresh 4 false ∷ fresh 4 true
    ∷ fresh_by true 1 false ∷ fresh_by true 16 true
    ∷ holding ∷ holding_on15 ∷ [])
    ≡ replicate 12 true
unfolding well_formed all_below sum_below is_priority fresh_machine thread_mask valid_record ones bit
these_are_well_formed = refl

-- ---- machines that fail in one clause

abbrev five_cpus : Machine
five_cpus = fresh 5 false

abbrev seventeen_cpus : Machine
seventeen_cpus = fresh_by true 17 false

-- n is 1, and CPU 1 is up.
abbrev unused_up : Machine
unused_up = with_cpu 1 (record { run = idle_run true; hold = 0 }) (fresh 1 false)

abbrev free_with_word : Machine
free_with_word = with_lock (record { state = free_record; word = 4 }) (fresh 1 false)

-- A lock of a wide machine with the word that a narrow one would give it: 4 with CPU 0. Here it names CPU 4, which counts it.
abbrev narrow_word : Machine
narrow_word =
    with_cpu 0 (record { run = record { active = true; current = Some (record { 0 = 0 }); priority = pos 0 }; hold = 0 })
    (with_cpu 4 (record { run = idle_run true; hold = 2 })
    (with_thread (record { mask = 1; priority = pos 0; place = Some (record { 0 = 0 }) })
    (with_lock (record { state = record { owner = Some 0; nest_count = 2; irq_saved = true }; word = 4 }) (fresh_by true 16 true))))

-- A hold that leaves CPU 15 out.
abbrev forgets15 : Machine
forgets15 =
    with_cpu 15 (record { run = record { active = true; current = Some (record { 0 = 0 }); priority = pos 0 }; hold = 0 }) holding_on15

abbrev hold_without_lock : Machine
hold_without_lock = with_cpu 0 (record { run = idle_run true; hold = 1 }) (fresh 1 false)

-- The CPU's priority is not its thread's.
abbrev other_priority : Machine
other_priority =
    with_cpu 0 (record { run = record { active = true; current = Some (record { 0 = 0 }); priority = pos 1 }; hold = 0 })
    (with_thread (record { mask = 1; priority = pos 0; place = Some (record { 0 = 0 }) }) (fresh 1 false))

abbrev placed_and_not_run : Machine
placed_and_not_run = with_thread (record { mask = 1; priority = pos 0; place = Some (record { 0 = 0 }) }) (fresh 1 false)

abbrev idle_at_zero : Machine
idle_at_zero = with_cpu 0 (record { run = record { active = true; current = None; priority = pos 0 }; hold = 0 }) (fresh 1 false)

abbrev thread_at128 : Machine
thread_at128 = with_thread (record { mask = 1; priority = pos 128; place = None }) (fresh 1 false)

abbrev pinned_to_two : Machine
pinned_to_two = with_thread (record { mask = 3; priority = pos 0; place = None }) (fresh 2 true)

-- The font thread of a machine of four CPUs, pinned to CPU 9.
abbrev pinned_to9_of4 : Machine
pinned_to9_of4 = with_thread (record { mask = 0x200; priority = pos 0; place = None }) (fresh 4 true)

abbrev broken : List Machine
broken =
    five_cpus
    ∷ unused_up
    ∷ free_with_word
    ∷ hold_without_lock
    ∷ other_priority
    ∷ placed_and_not_run
    ∷ idle_at_zero
    ∷ thread_at128
    ∷ pinned_to_two
    ∷ pinned_to9_of4
    ∷ []

pub these_are_not : map well_formed broken ≡ replicate 10 false
unfolding well_formed all_below sum_below is_priority fresh_machine thread_mask valid_record ones bit
these_are_not = refl

-- The first bit past sixteen CPUs.
abbrev pinned_to16 : Machine
pinned_to16 = with_thread (record { mask = 0x1_0000; priority = pos 0; place = None }) (fresh_by true 16 true)

-- Machines that a wide tag makes possible, and that fail in one clause: more CPUs than it tells apart, a narrow word, CPU 15's hold, and a pin
-- past CPU 15.
abbrev broken_wide : List Machine
broken_wide = seventeen_cpus ∷ narrow_word ∷ forgets15 ∷ pinned_to16 ∷ []

pub nor_are_these :
    map clauses broken_wide
    ≡ (false ∷ true ∷ true ∷ true ∷ true ∷ true ∷ true ∷ true ∷ true ∷ true ∷ [])
    ∷ (true ∷ true ∷ false ∷ true ∷ true ∷ true ∷ true ∷ true ∷ true ∷ true ∷ [])
    ∷ (true ∷ true ∷ true ∷ false ∷ true ∷ true ∷ true ∷ true ∷ true ∷ true ∷ [])
    ∷ (true ∷ true ∷ true ∷ true ∷ true ∷ true ∷ true ∷ true ∷ true ∷ false ∷ [])
    ∷ []
unfolding all_below sum_below is_priority fresh_machine thread_mask valid_record ones bit
nor_are_these = refl

-- Each fails in its own clause, and in no other.
pub each_clause_alone :
    map clauses broken
    ≡ (false ∷ true ∷ true ∷ true ∷ true ∷ true ∷ true ∷ true ∷ true ∷ true ∷ [])
    ∷ (true ∷ false ∷ true ∷ true ∷ true ∷ true ∷ true ∷ true ∷ true ∷ true ∷ [])
    ∷ (true ∷ true ∷ false ∷ true ∷ true ∷ true ∷ true ∷ true ∷ true ∷ true ∷ [])
    ∷ (true ∷ true ∷ true ∷ false ∷ true ∷ true ∷ true ∷ true ∷ true ∷ true ∷ [])
    ∷ (true ∷ true ∷ true ∷ true ∷ false ∷ true ∷ true ∷ true ∷ true ∷ true ∷ [])
    ∷ (true ∷ true ∷ true ∷ true ∷ true ∷ false ∷ true ∷ true ∷ true ∷ true ∷ [])
    ∷ (true ∷ true ∷ true ∷ true ∷ true ∷ true ∷ false ∷ true ∷ true ∷ true ∷ [])
    ∷ (true ∷ true ∷ true ∷ true ∷ true ∷ true ∷ true ∷ false ∷ true ∷ true ∷ [])
    ∷ (true ∷ true ∷ true ∷ true ∷ true ∷ true ∷ true ∷ true ∷ false ∷ true ∷ [])
    ∷ (true ∷ true ∷ true ∷ true ∷ true ∷ true ∷ true ∷ true ∷ true ∷ false ∷ [])
    ∷ []
unfolding all_below sum_below is_priority fresh_machine thread_mask valid_record ones bit
each_clause_alone = refl

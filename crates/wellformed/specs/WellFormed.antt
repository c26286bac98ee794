-- 01, "The machine", "Well-formed": the clauses in 01's order, each a test, and the one of 02, request 5. What a clause asks of one CPU, lock or
-- thread stands in the crate element_tests.
use Rattle.std.specs.Prelude.{ℕ, zero, suc, ◌+◌, Bool, ◌&&◌, List, eqb, get_or}
use Rattle.words.specs.Below.{all_below}
use Rattle.machine.specs.State.{cpu_slots, thread_count, lock_count, setup_ok, is_priority, no_cpu, no_thread, cpu_at, thread_at, lock_at}
use Rattle.machine.specs.declared.Cpu.{Cpu}
use Rattle.machine.specs.declared.Thread.{Thread}
use Rattle.machine.specs.declared.Setup.{Setup}
use Rattle.machine.specs.declared.Machine.{Machine}
use Rattle.element_tests.specs.Elements.{slot_by, lock_by, depth_for, current_by, place_by, idle_by, mask_by, pin_by}

-- The sum of f over the numbers below k.
unfoldable pub sum_below : (ℕ → ℕ) → ℕ → ℕ
sum_below f zero = 0
sum_below f (suc k) = sum_below f k + f k

-- n is 1 to 4, to 16 if wide.
abbrev pub size_ok : Machine → Bool
size_ok m = setup_ok m.setup

-- The clause for slot c of the machine.
abbrev pub slot_ok : Machine → ℕ → Bool
slot_ok m c = slot_by m.setup.n c (cpu_at m c)

-- The clause for lock l of the machine.
abbrev pub lock_ok : Machine → ℕ → Bool
lock_ok m l = lock_by m.setup m.cpus (lock_at m l)

-- The sum of depths of locks whose word names CPU c.
abbrev pub hold_sum : Machine → ℕ → ℕ
hold_sum m c = sum_below (λ l. depth_for m.setup (lock_at m l) c) lock_count

-- Hold is that sum.
abbrev pub hold_ok : Machine → ℕ → Bool
hold_ok m c = eqb (cpu_at m c).hold (hold_sum m c)

-- The clause for the current thread of CPU c of the machine.
abbrev pub current_ok : Machine → ℕ → Bool
current_ok m c = current_by m.threads c (cpu_at m c).run (cpu_at m c).run.current

-- The clause for the place of thread t of the machine.
abbrev pub place_ok : Machine → ℕ → Bool
place_ok m t = place_by m.setup.n m.cpus t (thread_at m t).place

-- The clause for the priority of CPU c of the machine.
abbrev pub idle_ok : Machine → ℕ → Bool
idle_ok m c = idle_by (cpu_at m c).run.priority (cpu_at m c).run.current

-- The clause for the priority of thread t of the machine.
abbrev pub priority_ok : Machine → ℕ → Bool
priority_ok m t = is_priority (thread_at m t).priority

-- The clause for the mask of thread t of the machine.
abbrev pub mask_ok : Machine → ℕ → Bool
mask_ok m t = mask_by m.setup.pin_only (thread_at m t)

-- The clause for the CPU that thread t of the machine is pinned to.
abbrev pub pin_ok : Machine → ℕ → Bool
pin_ok m t = pin_by m.setup (thread_at m t)

-- Slot, current thread and idle priority of CPU c of these, as one test.
abbrev pub cpu_ok : Setup → List Cpu → List Thread → ℕ → Bool
cpu_ok s cpus threads c =
    slot_by s.n c (get_or cpus c no_cpu)
    && (current_by threads c (get_or cpus c no_cpu).run (get_or cpus c no_cpu).run.current
    && idle_by (get_or cpus c no_cpu).run.priority (get_or cpus c no_cpu).run.current)

-- Place, priority, mask and pin of thread t of these, as one test.
abbrev pub thread_ok : Setup → List Cpu → List Thread → ℕ → Bool
thread_ok s cpus threads t =
    place_by s.n cpus t (get_or threads t no_thread).place
    && (is_priority (get_or threads t no_thread).priority
    && (mask_by s.pin_only (get_or threads t no_thread) && pin_by s (get_or threads t no_thread)))

-- Well-formed: the nine clauses, in 01's order, and the one of 02, request 5.
unfoldable pub well_formed : Machine → Bool
well_formed m =
    size_ok m
    && (all_below (slot_ok m) cpu_slots
    && (all_below (lock_ok m) lock_count
    && (all_below (hold_ok m) cpu_slots
    && (all_below (current_ok m) cpu_slots
    && (all_below (place_ok m) thread_count
    && (all_below (idle_ok m) cpu_slots
    && (all_below (priority_ok m) thread_count
    && (all_below (mask_ok m) thread_count
    && all_below (pin_ok m) thread_count))))))))

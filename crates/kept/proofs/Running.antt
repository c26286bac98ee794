-- A CPU gets another run cell: counts are kept, and locks are if no held lock's word names it. A CPU with no thread comes up or goes down: the
-- machine stays well-formed. Assumes nothing.
use Rattle.std.specs.Prelude.{Option, None, Some}
use Rattle.machine.specs.declared.ThreadId.{ThreadId}
use mathlib.Core.Path.{◌≡◌, refl, sym, ◌∙◌, subst}
use mathlib.Core.Bool.{Bool, false, false≢true}
use Prim.Native.Nat.{ℕ, ◌<◌}
use native.Mathlib.Omega.{arith}
use Rattle.machine.specs.State.{cpu_slots, idle_run, cpu_at, thread_at, lock_at}
use Rattle.machine.specs.declared.Run.{Run}
use Rattle.machine.specs.declared.Cpu.{Cpu}
use Rattle.machine.specs.declared.Machine.{Machine}
use Rattle.wellformed.specs.WellFormed.{hold_sum}
use Rattle.wellformed.proofs.Facts.{run_at, current_at, hold_at, GoodCpu, Locks, Counts, WellFormed}
use Rattle.operations.specs.Cells.{run, set_cpu, put}
use Rattle.kept.proofs.Apart.{none_or_thread}
use Rattle.operations.proofs.Lengths.{Lengths}
use Rattle.kept.proofs.Stored.{Stored, part, same_part, cpu_stored}
use Rattle.kept.proofs.Kept.{seats_after_run, Unlocked, idle_unlocked, locks_after_run}

module _ (m : Machine) (s : Lengths m) (c : ℕ) (h : c < cpu_slots) (r : Run) where
  cpus : Stored (cpu_at m) (cpu_at (put (run c) r m)) c (record { run = r; hold = (cpu_at m c).hold })
  cpus = cpu_stored m s c (record { run = r; hold = (cpu_at m c).hold }) h

  pub run_stored : Stored (run_at m) (run_at (put (run c) r m)) c r
  run_stored = part cpus (λ (x : Cpu). x.run)

  pub run_locks : Locks m.setup (current_at m) (lock_at m) → Unlocked m.setup (lock_at m) c
      → Locks m.setup (current_at (put (run c) r m)) (lock_at m)
  run_locks old unlocked = locks_after_run old (part cpus (λ (x : Cpu). x.run.current)) unlocked

  pub run_counts : Counts m.setup (hold_at m) (hold_sum m) → Counts m.setup (hold_at (put (run c) r m)) (hold_sum m)
  run_counts = subst (λ (hold : ℕ → ℕ). Counts m.setup hold (hold_sum m)) (same_part cpus (λ (x : Cpu). x.hold) refl)

-- A CPU that is down has no thread.
pub down_is_idle : (m : Machine) → WellFormed m → (c : ℕ) → c < cpu_slots → (cpu_at m c).run.active ≡ false
    → (cpu_at m c).run.current ≡ None
down_is_idle m w c h down = go (cpu_at m c).run.current refl
  where
    go : (o : Option ThreadId) → (cpu_at m c).run.current ≡ o → o ≡ None
    go None e = refl
    go (Some t) e = absurd (false≢true (sym down ∙ ((w.seats.cpus c h).current t e).active))

-- CPU c, active or not, with no thread.
abbrev pub idled : Machine → ℕ → Bool → Machine
idled m c active = set_cpu m c (record { run = idle_run active; hold = (cpu_at m c).hold })

module _ (m : Machine) (s : Lengths m) (w : WellFormed m) (c : ℕ) (h : c < m.setup.n) (idle : (cpu_at m c).run.current ≡ None)
    (active : Bool) where
  inside : c < cpu_slots
  inside = omega (arith, w.size.few)

  idle_good : GoodCpu m.setup (thread_at m) c (idle_run active)
  idle_good = record { down = λ past. absurd (omega arith); current = λ t e. absurd (none_or_thread e); idle = λ _. refl }

  pub idled_kept : WellFormed (idled m c active)
  idled_kept =
      record {
        size = w.size;
        seats = seats_after_run w.seats (run_stored m s c inside (idle_run active)) idle_good idle;
        locks = run_locks m s c inside (idle_run active) w.locks (idle_unlocked w.locks c idle);
        counts = run_counts m s c inside (idle_run active) w.counts;
      }

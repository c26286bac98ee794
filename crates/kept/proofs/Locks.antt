-- A lock's cell and a CPU's hold change together: the machine stays well-formed if the lock is a good one and the hold moves with what the
-- lock adds to it. Assumes nothing.
use Rattle.std.specs.Prelude.{Option}
use Rattle.machine.specs.declared.ThreadId.{ThreadId}
use mathlib.Core.Path.{◌≡◌, refl, ap, ◌∙◌, subst}
use Prim.Native.Nat.{ℕ, ◌+◌, ◌<◌}
use native.Mathlib.Omega.{arith}
use Rattle.machine.specs.State.{cpu_slots, lock_count, cpu_at, thread_at, lock_at}
use Rattle.machine.specs.declared.Run.{Run}
use Rattle.machine.specs.declared.Cpu.{Cpu}
use Rattle.machine.specs.declared.Lock.{Lock}
use Rattle.machine.specs.declared.Machine.{Machine}
use Rattle.element_tests.specs.Elements.{depth_for}
use Rattle.wellformed.specs.WellFormed.{hold_sum}
use Rattle.wellformed.proofs.Facts.{current_at, hold_at, GoodLock, Seats, Locks, Counts, WellFormed}
use Rattle.operations.specs.Cells.{set_cpu, set_lock}
use Rattle.operations.proofs.Lengths.{Lengths}
use Rattle.kept.proofs.Stored.{Stored, part, same_part, cpu_stored, lock_stored}
use Rattle.kept.proofs.Kept.{locks_after_lock, counts_after_hold}
use Rattle.kept.proofs.Sums.{sum_change}

-- Lock l with another cell and CPU c with another hold.
abbrev pub relocked : Machine → ℕ → ℕ → ℕ → Lock → Machine
relocked m c l h k = set_lock (set_cpu m c (record { run = (cpu_at m c).run; hold = h })) l k

-- What makes such a change a good one.
pub record Relocks (m : Machine) (c l h : ℕ) (k : Lock) : Type 0 where
  pub good : GoodLock m.setup (current_at m) k
  pub moves : h + depth_for m.setup (lock_at m l) c ≡ (cpu_at m c).hold + depth_for m.setup k c
  pub others : (d : ℕ) → (d ≡ c → ⊥) → depth_for m.setup k d ≡ depth_for m.setup (lock_at m l) d

module _ (m : Machine) (s : Lengths m) (w : WellFormed m) (c l : ℕ) (hc : c < m.setup.n) (hl : l < lock_count) (h : ℕ) (k : Lock)
    (g : Relocks m c l h k) where
  inside : c < cpu_slots
  inside = omega (arith, w.size.few)

  cpus : Stored (cpu_at m) (cpu_at (relocked m c l h k)) c (record { run = (cpu_at m c).run; hold = h })
  cpus = cpu_stored m s c (record { run = (cpu_at m c).run; hold = h }) inside

  locks : Stored (lock_at m) (lock_at (relocked m c l h k)) l k
  locks = lock_stored m s l k hl

  sum_after : (d : ℕ)
      → hold_sum (relocked m c l h k) d + depth_for m.setup (lock_at m l) d ≡ hold_sum m d + depth_for m.setup k d
  sum_after d =
      sum_change (λ j. depth_for m.setup (lock_at m j) d) (λ j. depth_for m.setup (lock_at (relocked m c l h k) j) d) lock_count l hl
      (λ j _ other. ap (λ (x : Lock). depth_for m.setup x d) (locks.elsewhere j other))
      ∙ ap (λ (x : Lock). hold_sum m d + depth_for m.setup x d) locks.there

  counts_after : Counts m.setup (hold_at (relocked m c l h k)) (hold_sum (relocked m c l h k))
  counts_after =
      counts_after_hold w.counts (part cpus (λ (x : Cpu). x.hold)) hc (omega (arith, (w.counts c inside).is, sum_after c, g.moves))
      (λ d other. omega (arith, sum_after d, g.others d other))

  pub relocked_kept : WellFormed (relocked m c l h k)
  relocked_kept =
      record {
        size = w.size;
        seats = subst (λ (run : ℕ → Run). Seats m.setup run (thread_at m)) (same_part cpus (λ (x : Cpu). x.run) refl) w.seats;
        locks = subst (λ (current : ℕ → Option ThreadId). Locks m.setup current (lock_at (relocked m c l h k)))
            (same_part cpus (λ (x : Cpu). x.run.current) refl) (locks_after_lock w.locks locks g.good);
        counts = counts_after;
      }

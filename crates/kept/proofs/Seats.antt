-- A CPU's run cell and a thread's cell change together: the machine stays well-formed if the two agree afterwards, nobody else was on that
-- CPU, the thread was nowhere else, and no held lock's word names the CPU. Assumes nothing.
use Rattle.std.specs.Prelude.{None, Some}
use mathlib.Core.Path.{◌≡◌, ap}
use Prim.Native.Nat.{ℕ, ◌<◌}
use native.Mathlib.Omega.{arith}
use lib.IntN.{pos}
use Rattle.machine.specs.State.{cpu_slots, thread_count, cpu_at, thread_at, lock_at}
use Rattle.machine.specs.declared.CpuId.{CpuId}
use Rattle.machine.specs.declared.ThreadId.{ThreadId}
use Rattle.machine.specs.declared.Run.{Run}
use Rattle.machine.specs.declared.Thread.{Thread}
use Rattle.machine.specs.declared.Machine.{Machine}
use Rattle.wellformed.proofs.Facts.{run_at, current_at, Runs, Carried, Fit, GoodCpu, GoodThread, WellFormed}
use Rattle.operations.specs.Cells.{set_cpu, set_thread}
use Rattle.operations.proofs.Lengths.{Lengths}
use Rattle.kept.proofs.Stored.{Stored, thread_stored}
use Rattle.kept.proofs.Kept.{seats_after_both, Unlocked}
use Rattle.kept.proofs.Running.{run_stored, run_locks, run_counts}

-- CPU c and thread t with other cells; the CPU's hold stays.
abbrev pub reseated : Machine → ℕ → ℕ → Run → Thread → Machine
reseated m c t r k = set_cpu (set_thread m t k) c (record { run = r; hold = (cpu_at m c).hold })

-- What makes such a change a good one.
pub record Reseats (m : Machine) (c t : ℕ) (r : Run) (k : Thread) : Type 0 where
  pub fits : Fit m.setup k.priority k.mask
  pub carries : (u : ThreadId) → r.current ≡ Some u → (u.0 ≡ t) × Carried c t r k
  pub placed : (d : CpuId) → k.place ≡ Some d → (d.0 ≡ c) × (r.current ≡ Some (record { 0 = t }))
  pub idle : r.current ≡ None → r.priority ≡ pos 128
  pub nowhere_else : (d : ℕ) → d < cpu_slots → (d ≡ c → ⊥) → Runs m d t → ⊥
  pub nobody_else : (u : ℕ) → (u ≡ t → ⊥) → Runs m c u → ⊥
  pub unlocked : Unlocked m.setup (lock_at m) c

module _ (m : Machine) (s : Lengths m) (w : WellFormed m) (c t : ℕ) (hc : c < m.setup.n) (ht : t < thread_count) (r : Run) (k : Thread)
    (g : Reseats m c t r k) where
  inside : c < cpu_slots
  inside = omega (arith, w.size.few)

  runs : Stored (run_at m) (run_at (reseated m c t r k)) c r
  runs = run_stored m s c inside r

  threads : Stored (thread_at m) (thread_at (reseated m c t r k)) t k
  threads = thread_stored m s t k ht

  cpu_good : GoodCpu m.setup (thread_at (reseated m c t r k)) c r
  cpu_good =
      record {
        down = λ past. absurd (omega arith);
        current = λ u e. let fact = g.carries u e in rw (fact.0, threads.there) fact.1;
        idle = g.idle;
      }

  thread_good : GoodThread m.setup (current_at (reseated m c t r k)) t k
  thread_good =
      record {
        place = λ d e.
            let fact = g.placed d e in
            rw (fact.0, ap (λ (x : Run). x.current) runs.there) (record { below = hc; current = fact.1 });
        fit = g.fits;
      }

  pub reseated_kept : WellFormed (reseated m c t r k)
  reseated_kept =
      record {
        size = w.size;
        seats = seats_after_both w.seats runs threads cpu_good thread_good g.nowhere_else g.nobody_else;
        locks = run_locks m s c inside r w.locks g.unlocked;
        counts = run_counts m s c inside r w.counts;
      }

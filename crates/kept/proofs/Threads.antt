-- A thread with no place gets another mask or priority, and the machine stays well-formed: it is current on no CPU. Assumes nothing.
use Rattle.std.specs.Prelude.{None}
use mathlib.Core.Path.{◌≡◌, sym, ◌∙◌}
use Prim.Native.Nat.{ℕ, ◌<◌}
use Rattle.machine.specs.State.{thread_count, thread_at}
use Rattle.machine.specs.declared.Thread.{Thread}
use Rattle.machine.specs.declared.Machine.{Machine}
use Rattle.wellformed.proofs.Facts.{current_at, Fit, GoodThread, WellFormed}
use Rattle.operations.specs.Cells.{set_thread}
use Rattle.kept.proofs.Apart.{nowhere_or_on}
use Rattle.operations.proofs.Lengths.{Lengths}
use Rattle.kept.proofs.Stored.{thread_stored}
use Rattle.kept.proofs.Kept.{seats_after_thread}

module _ (m : Machine) (s : Lengths m) (w : WellFormed m) (t : ℕ) (h : t < thread_count) (v : Thread)
    (nowhere : (thread_at m t).place ≡ None) (stays : v.place ≡ None) (fits : Fit m.setup v.priority v.mask) where
  good : GoodThread m.setup (current_at m) t v
  good = record { place = λ d placed. absurd (nowhere_or_on (sym stays ∙ placed)); fit = fits }

  pub thread_kept : WellFormed (set_thread m t v)
  thread_kept =
      record {
        size = w.size;
        seats = seats_after_thread w.seats (thread_stored m s t v h) good nowhere;
        locks = w.locks;
        counts = w.counts;
      }

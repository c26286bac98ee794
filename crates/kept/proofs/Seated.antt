-- A put and a take that their rules accept leave the machine well-formed. Assumes nothing.
use mathlib.Core.Path.{refl, sym, ◌∙◌}
use Prim.Native.Nat.{ℕ, ◌<◌}
use native.Mathlib.Omega.{arith}
use Rattle.machine.specs.State.{cpu_slots, thread_count, cpu_at, thread_at}
use Rattle.machine.specs.declared.Run.{Run}
use Rattle.machine.specs.declared.Thread.{Thread}
use Rattle.machine.specs.declared.Machine.{Machine}
use Rattle.rules.specs.Rules.{seated, unseated}
use Rattle.wellformed.proofs.Facts.{WellFormed}
use Rattle.kept.proofs.Apart.{none_or_thread, nowhere_or_on, same_thread, same_cpu}
use Rattle.operations.proofs.Lengths.{Lengths}
use Rattle.kept.proofs.Accepted.{Puts, Takes}
use Rattle.kept.proofs.Kept.{idle_unlocked}
use Rattle.kept.proofs.Depths.{unheld}
use Rattle.kept.proofs.Seats.{reseated, Reseats, reseated_kept}

module _ (m : Machine) (s : Lengths m) (w : WellFormed m) (c t : ℕ) (hc : c < m.setup.n) (ht : t < thread_count) where
  seats : (v : Run × Thread) → Puts c t (cpu_at m c).run (thread_at m t) v
      → Reseats m c t (seated c t (cpu_at m c).run (thread_at m t)).0 (seated c t (cpu_at m c).run (thread_at m t)).1
  seats v p =
      record {
        fits = (w.seats.threads t ht).fit;
        carries = λ u e. (same_thread e, record { below = ht; active = p.active; priority = refl; place = refl; allowed = p.allowed });
        placed = λ d e. (same_cpu e, refl);
        idle = λ e. absurd (none_or_thread (sym e));
        nowhere_else = λ d h _ runs. nowhere_or_on (sym p.nowhere ∙ ((w.seats.cpus d h).current (record { 0 = t }) runs).place);
        nobody_else = λ u other runs. none_or_thread (sym p.idle ∙ runs);
        unlocked = idle_unlocked w.locks c p.idle;
      }

  pub put_kept : (v : Run × Thread) → Puts c t (cpu_at m c).run (thread_at m t) v → WellFormed (reseated m c t v.0 v.1)
  put_kept v p = rw p.is (reseated_kept m s w c t hc ht _ _ (seats v p))

  unseats : (v : Run × Thread) → Takes t (cpu_at m c).hold (cpu_at m c).run (thread_at m t) v
      → Reseats m c t (unseated (thread_at m t)).0 (unseated (thread_at m t)).1
  unseats v p =
      let hc' : c < cpu_slots = omega (arith, w.size.few) in
      let mine = (w.seats.cpus c hc').current (record { 0 = t }) p.runs in
      record {
        fits = (w.seats.threads t ht).fit;
        carries = λ u e. absurd (none_or_thread e);
        placed = λ d e. absurd (nowhere_or_on e);
        idle = λ _. refl;
        nowhere_else = λ d h other runs. other (same_cpu (sym mine.place ∙ ((w.seats.cpus d h).current (record { 0 = t }) runs).place));
        nobody_else = λ u other runs. other (same_thread (sym p.runs ∙ runs));
        unlocked = unheld m w c hc' p.none;
      }

  pub take_kept : (v : Run × Thread) → Takes t (cpu_at m c).hold (cpu_at m c).run (thread_at m t) v → WellFormed (reseated m c t v.0 v.1)
  take_kept v p = rw p.is (reseated_kept m s w c t hc ht _ _ (unseats v p))

-- An unwind leaves a well-formed machine: a lock whose word names the CPU is free, every other lock is as it was, and the CPU's hold counts
-- none. Assumes nothing.
use Rattle.std.specs.Prelude.{Option}
use Rattle.machine.specs.declared.ThreadId.{ThreadId}
use mathlib.Core.Path.{◌≡◌, refl, sym, ap, ◌∙◌, subst}
use mathlib.Core.Bool.{Bool, true, false, not, cond}
use Prim.Native.Nat.{ℕ, ◌<◌}
use native.Mathlib.Omega.{arith}
use lib.Dec.{eqb}
use lib.ListN.{get_or-map}
use borrow.Author.Tests.{eqb-true}
use Rattle.error.specs.Answer.{Answer}
use Rattle.words.specs.Tag.{cpu_of}
use Rattle.words.proofs.Choice.{bool_ind, and_right}
use Rattle.order.specs.Cells.{after}
use Rattle.machine.specs.State.{cpu_slots, lock_count, tag_bits, names, is_current, free_lock, cpu_at, thread_at, lock_at}
use Rattle.machine.specs.declared.Setup.{Setup}
use Rattle.machine.specs.declared.Run.{Run}
use Rattle.machine.specs.declared.Cpu.{Cpu}
use Rattle.machine.specs.declared.Lock.{Lock}
use Rattle.machine.specs.declared.Machine.{Machine}
use Rattle.rules.specs.Rules.{given_back}
use Rattle.element_tests.specs.Elements.{depth_for}
use Rattle.wellformed.specs.WellFormed.{hold_sum}
use Rattle.wellformed.proofs.Facts.{current_at, GoodLock, Seats, Locks, WellFormed}
use Rattle.operations.specs.Cells.{machine_store}
use Rattle.operations.specs.Operations.{unwinding}
use Rattle.operations.proofs.Lengths.{Lengths}
use Rattle.operations.proofs.Unwound.{unwound_machine, refused_after, accepted_after}
use Rattle.kept.proofs.Apart.{none_or_owner}
use Rattle.kept.proofs.Stored.{Stored, part, same_part, cpu_stored}
use Rattle.kept.proofs.Kept.{counts_after_hold}
use Rattle.kept.proofs.Sums.{sum_same, sum_most}
use Rattle.kept.proofs.Depths.{depth_other}

-- ---- one lock

module _ (s : Setup) (c : ℕ) (k : Lock) where
  -- A lock given back is free, or its word did not name the CPU and it is as it was.
  pub back_cases : (P : Lock → Type 0) → (names s k.word c ≡ true → P free_lock) → (names s k.word c ≡ false → P k) → P (given_back s c k)
  back_cases P f g = bool_ind (λ b. P (cond b free_lock k)) (names s k.word c) f g

  pub back_names : names s (given_back s c k).word c ≡ false
  back_names = back_cases (λ x. names s x.word c ≡ false) (λ _. refl) (λ e. e)

  -- It adds nothing to the CPU's hold, and to another CPU's what it did.
  back_depth : depth_for s (given_back s c k) c ≡ 0
  back_depth = rw back_names

  back_depth_other : (d : ℕ) → (d ≡ c → ⊥) → depth_for s (given_back s c k) d ≡ depth_for s k d
  back_depth_other d other =
      back_cases (λ x. depth_for s x d ≡ depth_for s k d)
      (λ named.
      let cpu = eqb-true (cpu_of (tag_bits s) k.word) c (and_right (not (eqb k.word 0)) _ named) in
      sym (depth_other s k d (λ e. other (sym e ∙ cpu)))) (λ _. refl)

-- ---- the machine

module _ (m : Machine) (s : Lengths m) (w : WellFormed m) (c : ℕ) (hc : c < m.setup.n) where
  inside : c < cpu_slots
  inside = omega (arith, w.size.few)

  pub unwound_cpus : Stored (cpu_at m) (cpu_at (unwound_machine m c)) c (record { run = (cpu_at m c).run; hold = 0 })
  unwound_cpus = cpu_stored m s c (record { run = (cpu_at m c).run; hold = 0 }) inside

  pub unwound_lock : (l : ℕ) → lock_at (unwound_machine m c) l ≡ given_back m.setup c (lock_at m l)
  unwound_lock l = get_or-map (given_back m.setup c) m.locks l free_lock

  free_good : GoodLock m.setup (current_at m) free_lock
  free_good = record { free = λ _. record { depth = refl; flag = refl; word = refl }; held = λ t e. absurd (none_or_owner e) }

  locks_after : Locks m.setup (current_at m) (lock_at (unwound_machine m c))
  locks_after l h =
      rw (unwound_lock l)
      (back_cases m.setup c (lock_at m l) (GoodLock m.setup (current_at m)) (λ _. free_good) (λ _. w.locks l h))

  -- What lock l adds to a CPU's hold.
  adds : (l d : ℕ) → depth_for m.setup (lock_at (unwound_machine m c) l) d ≡ depth_for m.setup (given_back m.setup c (lock_at m l)) d
  adds l d = ap (λ (x : Lock). depth_for m.setup x d) (unwound_lock l)

  sum_none : 0 ≡ hold_sum (unwound_machine m c) c
  sum_none =
      let most = sum_most (λ l. depth_for m.setup (lock_at (unwound_machine m c) l) c) lock_count 0
      (λ l _. let none = adds l c ∙ back_depth m.setup c (lock_at m l) in omega arith) in
      omega arith

  sum_others : (d : ℕ) → (d ≡ c → ⊥) → hold_sum m d ≡ hold_sum (unwound_machine m c) d
  sum_others d other =
      sym
      (sum_same (λ l. depth_for m.setup (lock_at m l) d) (λ l. depth_for m.setup (lock_at (unwound_machine m c) l) d) lock_count
      (λ l _. adds l d ∙ back_depth_other m.setup c (lock_at m l) d other))

  pub unwound_kept : WellFormed (unwound_machine m c)
  unwound_kept =
      record {
        size = w.size;
        seats = subst (λ (run : ℕ → Run). Seats m.setup run (thread_at m)) (same_part unwound_cpus (λ (x : Cpu). x.run) refl) w.seats;
        locks = subst (λ (current : ℕ → Option ThreadId). Locks m.setup current (lock_at (unwound_machine m c)))
            (same_part unwound_cpus (λ (x : Cpu). x.run.current) refl) locks_after;
        counts = counts_after_hold w.counts (part unwound_cpus (λ (x : Cpu). x.hold)) hc sum_none sum_others;
      }

-- Accepted or refused, it leaves a well-formed machine.
pub unwind_kept : (m : Machine) → Lengths m → WellFormed m → (c t : ℕ) → c < m.setup.n
    → WellFormed (after machine_store (Answer ℕ) m (unwinding m.setup c t))
unwind_kept m s w c t hc = go (is_current (cpu_at m c).run.current t) refl
  where
    go : (b : Bool) → is_current (cpu_at m c).run.current t ≡ b → WellFormed (after machine_store (Answer ℕ) m (unwinding m.setup c t))
    go true e = rw (accepted_after m c t s.locks e) (unwound_kept m s w c hc)
    go false e = rw (refused_after m c t s.locks e) w

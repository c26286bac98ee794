-- How each fact is kept, by the cells that change. A cell that is stored has to be a good one; a cell that stays is still good if no cell that it
-- names is stored: a CPU names its current thread, a thread its place, and a held lock the CPU of its word. Assumes nothing.
use Rattle.std.specs.Prelude.{Option, None, Some}
use Rattle.machine.specs.declared.ThreadId.{ThreadId}
use mathlib.Core.Path.{◌≡◌, sym, ap, ◌∙◌}
use Prim.Native.Nat.{ℕ, ◌<◌}
use native.Mathlib.Omega.{arith}
use Rattle.words.specs.Tag.{cpu_of}
use Rattle.machine.specs.State.{cpu_slots, thread_count, lock_count, tag_bits}
use Rattle.machine.specs.declared.Run.{Run}
use Rattle.machine.specs.declared.Thread.{Thread}
use Rattle.machine.specs.declared.Lock.{Lock}
use Rattle.machine.specs.declared.Setup.{Setup}
use Rattle.wellformed.proofs.Facts.{GoodCpu, GoodThread, Seats, GoodLock, Locks, GoodHold, Counts}
use Rattle.kept.proofs.Apart.{none_or_thread, nowhere_or_on}
use Rattle.kept.proofs.Stored.{Stored, everywhere, part}

-- ---- seats

-- A thread that is not the CPU's current one gets another cell.
still_cpu : {s : Setup} {thread thread' : ℕ → Thread} {t c : ℕ} {k : Thread} {r : Run} → Stored thread thread' t k → GoodCpu s thread c r
    → (r.current ≡ Some (record { 0 = t }) → ⊥) → GoodCpu s thread' c r
still_cpu {t = t} threads old other =
    record {
      down = old.down;
      current = λ u runs.
          let away : u.0 ≡ t → ⊥ = λ e. other (runs ∙ ap (λ (i : ℕ). Some (record { 0 = i })) e) in
          rw (threads.elsewhere u.0 away) (old.current u runs);
      idle = old.idle;
    }

-- A CPU on which the thread is not current gets another current thread.
still_thread : {s : Setup} {current current' : ℕ → Option ThreadId} {c t : ℕ} {o : Option ThreadId} {k : Thread} → Stored current current' c o
    → GoodThread s current t k → (current c ≡ Some (record { 0 = t }) → ⊥) → GoodThread s current' t k
still_thread {current = current} currents old other =
    record {
      place = λ d placed.
          let was = old.place d placed in
          rw (currents.elsewhere d.0 (λ e. other (ap current (sym e) ∙ was.current))) was;
      fit = old.fit;
    }

module _ {s : Setup} {run : ℕ → Run} {thread : ℕ → Thread} (old : Seats s run thread) where
  -- A CPU that had no thread gets another run cell.
  pub seats_after_run : {run' : ℕ → Run} {c : ℕ} {r : Run} → Stored run run' c r → GoodCpu s thread c r → (run c).current ≡ None
      → Seats s run' thread
  seats_after_run runs good idle =
      record {
        cpus = everywhere runs (λ d x. d < cpu_slots → GoodCpu s thread d x) (λ _. good) (λ d _. old.cpus d);
        threads = λ t b. still_thread (part runs (λ (x : Run). x.current)) (old.threads t b) (λ now. none_or_thread (sym idle ∙ now));
      }

  -- A thread that had no place gets another cell.
  pub seats_after_thread : {thread' : ℕ → Thread} {t : ℕ} {k : Thread} → Stored thread thread' t k → GoodThread s (λ c. (run c).current) t k
      → (thread t).place ≡ None → Seats s run thread'
  seats_after_thread threads good nowhere =
      record {
        cpus = λ c b. still_cpu threads (old.cpus c b) (λ now. nowhere_or_on (sym nowhere ∙ ((old.cpus c b).current _ now).place));
        threads = everywhere threads (λ u x. u < thread_count → GoodThread s (λ c. (run c).current) u x) (λ _. good) (λ u _. old.threads u);
      }

  -- A CPU and a thread get other cells: the thread was nowhere else, and nobody else was there.
  pub seats_after_both : {run' : ℕ → Run} {thread' : ℕ → Thread} {c t : ℕ} {r : Run} {k : Thread} → Stored run run' c r → Stored thread thread' t k
      → GoodCpu s thread' c r → GoodThread s (λ d. (run' d).current) t k
      → ((d : ℕ) → d < cpu_slots → (d ≡ c → ⊥) → (run d).current ≡ Some (record { 0 = t }) → ⊥)
      → ((u : ℕ) → (u ≡ t → ⊥) → (run c).current ≡ Some (record { 0 = u }) → ⊥) → Seats s run' thread'
  seats_after_both {run'} {thread'} runs threads cpu_good thread_good nowhere_else nobody_else =
      record {
        cpus = everywhere runs (λ d x. d < cpu_slots → GoodCpu s thread' d x) (λ _. cpu_good)
            (λ d other b. still_cpu threads (old.cpus d b) (nowhere_else d b other));
        threads = everywhere threads (λ u x. u < thread_count → GoodThread s (λ d. (run' d).current) u x) (λ _. thread_good)
            (λ u other b. still_thread (part runs (λ (x : Run). x.current)) (old.threads u b) (nobody_else u other));
      }

-- ---- locks

-- No held lock's word names CPU c.
abbrev pub Unlocked : Setup → (ℕ → Lock) → ℕ → Type 0
Unlocked s lock c = (l : ℕ) → l < lock_count → (t : ℕ) → (lock l).state.owner ≡ Some t → cpu_of (tag_bits s) (lock l).word ≡ c → ⊥

module _ {s : Setup} {current : ℕ → Option ThreadId} {lock : ℕ → Lock} (old : Locks s current lock) where
  -- So it is of a CPU that has no thread.
  pub idle_unlocked : (c : ℕ) → current c ≡ None → Unlocked s lock c
  idle_unlocked c idle l h t owned named = none_or_thread (sym idle ∙ ap current (sym named) ∙ ((old l h).held t owned).current)

  -- Such a CPU gets another current thread, or none.
  pub locks_after_run : {current' : ℕ → Option ThreadId} {c : ℕ} {o : Option ThreadId} → Stored current current' c o → Unlocked s lock c → Locks s current' lock
  locks_after_run currents unlocked l h =
      record {
        free = (old l h).free;
        held = λ t owned. rw (currents.elsewhere _ (unlocked l h t owned)) ((old l h).held t owned);
      }

  -- A lock gets another cell.
  pub locks_after_lock : {lock' : ℕ → Lock} {l : ℕ} {k : Lock} → Stored lock lock' l k → GoodLock s current k → Locks s current lock'
  locks_after_lock locks good = everywhere locks (λ j x. j < lock_count → GoodLock s current x) (λ _. good) (λ j _. old j)

-- ---- counts

-- A CPU that is used gets another hold, and its sum moves with it.
pub counts_after_hold : {s : Setup} {hold hold' sum sum' : ℕ → ℕ} {c h : ℕ} → Counts s hold sum → Stored hold hold' c h → c < s.n
    → h ≡ sum' c → ((d : ℕ) → (d ≡ c → ⊥) → sum d ≡ sum' d) → Counts s hold' sum'
counts_after_hold {s} {sum' = sum'} old holds used moves others =
    everywhere holds (λ d x. d < cpu_slots → GoodHold s d x (sum' d)) (λ _. record { is = moves; unused = λ past. absurd (omega arith) })
    (λ d other b. let was = old d b in record { is = was.is ∙ others d other; unused = was.unused })

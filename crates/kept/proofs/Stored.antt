-- What a machine has in a place after another value was stored in some place: there that value, and elsewhere what it had. An array of cells
-- is a function of the place; that a place is the one stored to or another is said here once, for every array. Assumes nothing.
use mathlib.Core.Path.{◌≡◌, refl, ap}
use mathlib.Core.Logic.{◌⊎◌, inl, inr}
use Prim.Native.Nat.{ℕ, ◌<◌}
use native.Mathlib.Omega.{arith}
use lib.Seq.{get_or-set_same, get_or-set_other}
use Rattle.words.proofs.Choice.{same_or}
use Rattle.machine.specs.State.{cpu_slots, thread_count, lock_count, no_cpu, no_thread, free_lock, cpu_at, thread_at, lock_at}
use Rattle.machine.specs.declared.Cpu.{Cpu}
use Rattle.machine.specs.declared.Thread.{Thread}
use Rattle.machine.specs.declared.Lock.{Lock}
use Rattle.machine.specs.declared.Machine.{Machine}
use Rattle.operations.specs.Cells.{set_cpu, set_thread, set_lock}
use Rattle.operations.proofs.Lengths.{Lengths}

-- Array g is array f with v stored at i.
pub record Stored {A : Type 0} (f g : ℕ → A) (i : ℕ) (v : A) : Type 0 where
  pub there : g i ≡ v
  pub elsewhere : (j : ℕ) → (j ≡ i → ⊥) → g j ≡ f j

module _ {A : Type 0} {f g : ℕ → A} {i : ℕ} {v : A} (s : Stored f g i v) where
  -- What holds of the value stored, and elsewhere of what was there, holds everywhere.
  pub everywhere : (P : ℕ → A → Type 0) → P i v → ((j : ℕ) → (j ≡ i → ⊥) → P j (f j)) → (j : ℕ) → P j (g j)
  everywhere P here rest j = go (same_or j i)
    where
      go : (j ≡ i) ⊎ (j ≡ i → ⊥) → P j (g j)
      go (inl e) = rw (e, s.there) here
      go (inr other) = rw (s.elsewhere j other) (rest j other)

  -- A part of each cell is stored with it.
  pub part : {B : Type 0} (p : A → B) → Stored (λ j. p (f j)) (λ j. p (g j)) i (p v)
  part p = record { there = ap p s.there; elsewhere = λ j other. ap p (s.elsewhere j other) }

  -- A part that is stored as it was is the same array.
  pub same_part : {B : Type 0} (p : A → B) → p (f i) ≡ p v → ◌≡◌ {A = ℕ → B} (λ j. p (f j)) (λ j. p (g j))
  same_part p e = let each = everywhere (λ j x. p (f j) ≡ p x) e (λ j _. refl) in λ k j. each j k

module _ (m : Machine) (s : Lengths m) where
  pub cpu_there : (c : ℕ) (v : Cpu) → c < cpu_slots → cpu_at (set_cpu m c v) c ≡ v
  cpu_there c v h = get_or-set_same m.cpus c v no_cpu (omega (arith, s.cpus))

  pub thread_there : (t : ℕ) (v : Thread) → t < thread_count → thread_at (set_thread m t v) t ≡ v
  thread_there t v h = get_or-set_same m.threads t v no_thread (omega (arith, s.threads))

  pub lock_there : (l : ℕ) (v : Lock) → l < lock_count → lock_at (set_lock m l v) l ≡ v
  lock_there l v h = get_or-set_same m.locks l v free_lock (omega (arith, s.locks))

module _ (m : Machine) where
  pub cpu_elsewhere : (c : ℕ) (v : Cpu) (d : ℕ) → (d ≡ c → ⊥) → cpu_at (set_cpu m c v) d ≡ cpu_at m d
  cpu_elsewhere c v d other = get_or-set_other m.cpus c d v no_cpu other

  pub thread_elsewhere : (t : ℕ) (v : Thread) (u : ℕ) → (u ≡ t → ⊥) → thread_at (set_thread m t v) u ≡ thread_at m u
  thread_elsewhere t v u other = get_or-set_other m.threads t u v no_thread other

  pub lock_elsewhere : (l : ℕ) (v : Lock) (k : ℕ) → (k ≡ l → ⊥) → lock_at (set_lock m l v) k ≡ lock_at m k
  lock_elsewhere l v k other = get_or-set_other m.locks l k v free_lock other

module _ (m : Machine) (s : Lengths m) where
  pub cpu_stored : (c : ℕ) (v : Cpu) → c < cpu_slots → Stored (cpu_at m) (cpu_at (set_cpu m c v)) c v
  cpu_stored c v h = record { there = cpu_there m s c v h; elsewhere = cpu_elsewhere m c v }

  pub thread_stored : (t : ℕ) (v : Thread) → t < thread_count → Stored (thread_at m) (thread_at (set_thread m t v)) t v
  thread_stored t v h = record { there = thread_there m s t v h; elsewhere = thread_elsewhere m t v }

  pub lock_stored : (l : ℕ) (v : Lock) → l < lock_count → Stored (lock_at m) (lock_at (set_lock m l v)) l v
  lock_stored l v h = record { there = lock_there m s l v h; elsewhere = lock_elsewhere m l v }

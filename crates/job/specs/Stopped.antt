-- 02, request 1: what is left after the unwind of a stopped job.
use Rattle.std.specs.Prelude.{◌≡◌, true, false, List, ℕ}
use Rattle.error.specs.Codes.{OK}
use Rattle.error.specs.Answer.{answer}
use Rattle.machine.specs.State.{names, free_lock, cpu_at, lock_at}
use Rattle.machine.specs.declared.Machine.{Machine}
use Rattle.operations.specs.Asked.{answered, next}
use Rattle.job.specs.Job.{OwnsNothing, HoldsNothing}

-- The bytes were accepted as an unwind by CPU c, whose thread is t: the value is what the CPU held; every lock whose word named it is free, and
-- every other is as it was; it holds nothing, its run cell, every other CPU and every thread are as they were; and no lock names the CPU or the
-- thread.
pub record Unwinds (m : Machine) (bytes : List ℕ) (c t : ℕ) : Type 0 where
  pub answer : answered m bytes ≡ answer OK (cpu_at m c).hold
  pub freed : (l : ℕ) → names m.setup (lock_at m l).word c ≡ true → lock_at (next m bytes) l ≡ free_lock
  pub others : (l : ℕ) → names m.setup (lock_at m l).word c ≡ false → lock_at (next m bytes) l ≡ lock_at m l
  pub hold : (cpu_at (next m bytes) c).hold ≡ 0
  pub run : (cpu_at (next m bytes) c).run ≡ (cpu_at m c).run
  pub cpus : (d : ℕ) → (d ≡ c → ⊥) → cpu_at (next m bytes) d ≡ cpu_at m d
  pub threads : (next m bytes).threads ≡ m.threads
  pub owns : OwnsNothing (next m bytes) t
  pub holds : HoldsNothing (next m bytes) c

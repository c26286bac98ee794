-- 02, request 6: what the theorem on self-deadlocks speaks of: a CPU that holds a lock, and how a plain acquire is answered by who holds it.
use Rattle.machine.specs.declared.ThreadId.{ThreadId}
use Rattle.std.specs.Prelude.{◌≡◌, ◌≢◌, Bool, cond, ℕ, Option, None, Some}
use Rattle.error.specs.Codes.{OK, EBUSY, EINVAL, EDEADLK}
use Rattle.error.specs.Answer.{Answer, answer}
use Rattle.machine.specs.State.{names, cpu_at, lock_at}
use Rattle.machine.specs.declared.Machine.{Machine}
use Rattle.job.specs.Job.{Holder}

-- CPU c holds lock l: the lock has an owner, which that CPU runs, and its word names the CPU.
pub record Holds (m : Machine) (c l : ℕ) : Type 0 where
  pub thread : ℕ
  pub owner : (lock_at m l).state.owner ≡ Some thread
  pub holder : Holder m l c thread

-- Another CPU than c holds lock l.
pub record HeldByAnother (m : Machine) (c l : ℕ) : Type 0 where
  pub cpu : ℕ
  pub other : cpu ≢ c
  pub holds : Holds m cpu l

-- A free lock is taken at depth 1; a held one is EDEADLK for the CPU that holds it, and EBUSY for another. The value is the depth.
abbrev pub by_owner : Option ℕ → Bool → ℕ → Answer ℕ
by_owner None itself depth = answer OK 1
by_owner (Some t) itself depth = answer (cond itself EDEADLK EBUSY) depth

-- No thread on the CPU is EINVAL, first.
abbrev pub by_current : Option ThreadId → ℕ → Answer ℕ → Answer ℕ
by_current None depth a = answer EINVAL depth
by_current (Some t) depth a = a

-- The answer to a plain acquire of lock l by CPU c.
abbrev pub plain_answer : Machine → ℕ → ℕ → Answer ℕ
plain_answer m c l =
    let lock = lock_at m l in
    let depth = lock.state.nest_count in
    by_current (cpu_at m c).run.current depth (by_owner lock.state.owner (names m.setup lock.word c) depth)

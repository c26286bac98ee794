-- What the theorem on pinned threads speaks of: the CPU that a thread may run on, and what a put asks besides the thread's mask.
use Rattle.std.specs.Prelude.{◌≡◌, ◌||◌, not, cond, ℕ, ◌<◌, eqb}
use Rattle.error.specs.Codes.{OK, EBUSY, EINVAL}
use Rattle.error.specs.Answer.{Answer, answer}
use Rattle.words.specs.Bit.{bit}
use Rattle.machine.specs.State.{thread_at}
use Rattle.machine.specs.declared.Run.{Run}
use Rattle.machine.specs.declared.Thread.{Thread}
use Rattle.machine.specs.declared.Machine.{Machine}
use Rattle.rules.specs.Rules.{occupied, placed}

-- The CPU that thread t may run on: one of the machine, and the mask allows it and no other.
pub record OwnCpu (m : Machine) (t : ℕ) : Type 0 where
  pub cpu : ℕ
  pub below : cpu < m.setup.n
  pub allowed : (d : ℕ) → bit d (thread_at m t).mask ≡ eqb d cpu

-- What a put answers where the mask is no matter: not active EINVAL; CPU occupied or thread placed EBUSY; else OK.
abbrev pub put_whatever_the_mask : Run → Thread → Answer ℕ
put_whatever_the_mask run thread =
    cond (not run.active) (answer EINVAL 0)
    (cond (occupied run.current || placed thread.place) (answer EBUSY 0) (answer OK 0))

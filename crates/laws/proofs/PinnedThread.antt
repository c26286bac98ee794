-- A pinned thread can run. On every well-formed machine under pin-only each thread has a CPU of the machine that it may run on, so a put of it
-- there is never refused for its mask. (A field unit had pinned its font thread to CPU 9 of 4; no put of it could ever be accepted.)
--
-- `OwnCpu` and `put_whatever_the_mask` stand in specs/Pinned.antt. Every step keeps a machine well-formed, `step_Keeps` (kept/proofs/Laws.antt), so
-- this is true after every record. Assumes nothing.
use Rattle.std.specs.Prelude.{None}
use mathlib.Core.Path.{◌≡◌, refl, sym, ◌∙◌}
use mathlib.Core.Bool.{Bool, true, false, ◌||◌, not, cond}
use mathlib.Core.List.{List}
use Prim.Native.Nat.{ℕ, ◌<◌}
use borrow.Author.Tests.{eq-eqb}
use Rattle.error.specs.Codes.{OK, EBUSY, EINVAL, is_ok}
use Rattle.error.specs.Answer.{answer}
use Rattle.words.specs.Bit.{bit}
use Rattle.words.proofs.Ones.{one_only}
use Rattle.order.specs.Outcome.{answer_of}
use Rattle.machine.specs.State.{thread_count, cpu_at, thread_at}
use Rattle.machine.specs.declared.Run.{Run}
use Rattle.machine.specs.declared.Thread.{Thread}
use Rattle.machine.specs.declared.Machine.{Machine}
use Rattle.record.specs.Record.{request, request_of}
use Rattle.record.specs.declared.CpuOperation.{CpuOperation}
use Rattle.record.specs.declared.Operation.{Operation}
use Rattle.rules.specs.Rules.{occupied, placed, put, refused, done, seated}
use Rattle.wellformed.specs.WellFormed.{well_formed}
use Rattle.wellformed.proofs.Facts.{says}
use Rattle.operations.specs.Asked.{answered}
use Rattle.operations.proofs.Turns.{answer_two}
use Rattle.laws.specs.Pinned.{OwnCpu, put_whatever_the_mask}

-- A put of a thread whose mask allows the CPU, by its other tests.
put_allowed : (c t : ℕ) (run : Run) (thread : Thread) → bit c thread.mask ≡ true
    → answer_of (put c t run thread) ≡ put_whatever_the_mask run thread
unfolding put
put_allowed c t run thread allowed = rw allowed (told run.active (occupied run.current || placed thread.place))
  where
    told : (active busy : Bool)
        → answer_of (cond (not active) (refused EINVAL 0) (cond busy (refused EBUSY 0) (done 0 (seated c t run thread))))
        ≡ cond (not active) (answer EINVAL 0) (cond busy (answer EBUSY 0) (answer OK 0))
    told true true = refl
    told true false = refl
    told false busy = refl

module _ (m : Machine) (formed : well_formed m ≡ true) (pinned : m.setup.pin_only ≡ true) (t : ℕ) (exists : t < thread_count) where
  pub has_a_cpu : OwnCpu m t
  has_a_cpu =
      let mask = ((says m formed).seats.threads t exists).fit.mask in
      let only = one_only m.setup.n (thread_at m t).mask (mask.below pinned) (mask.one pinned) in
      record { cpu = only.at; below = only.below; allowed = only.bits }

  -- Twelve bytes that put the thread on that CPU. (A put uses no lock: its number z is any.)
  module _ (bytes : List ℕ) {z : ℕ} (asks : request_of m.setup bytes ≡ request (Operation.OnCpu CpuOperation.Put) has_a_cpu.cpu t z) where
    pub never_refused_for_its_mask : answered m bytes ≡ put_whatever_the_mask (cpu_at m has_a_cpu.cpu).run (thread_at m t)
    unfolding answered
    never_refused_for_its_mask =
        let c = has_a_cpu.cpu in
        let own = has_a_cpu.allowed c ∙ eq-eqb c c refl in
        rw asks (sym (answer_two (put c t (cpu_at m c).run (thread_at m t))) ∙ put_allowed c t (cpu_at m c).run (thread_at m t) own)

    -- So it can run: where the CPU is active and has no thread, and the thread has no place, the put is accepted.
    pub can_run : (cpu_at m has_a_cpu.cpu).run.active ≡ true → (cpu_at m has_a_cpu.cpu).run.current ≡ None
        → (thread_at m t).place ≡ None → is_ok (answered m bytes).code ≡ true
    can_run active idle nowhere = rw (never_refused_for_its_mask, active, idle, nowhere) refl

-- The stopped job. On a well-formed machine where thread t is current on CPU c, an unwind is accepted and says what the CPU held; afterwards
-- neither has anything, what is others' is as it was, the thread can be taken off, and whoever is put there next finds nothing. Assumes nothing.
use Rattle.std.specs.Prelude.{Some}
use mathlib.Core.Path.{◌≡◌, sym, ap, ◌∙◌}
use mathlib.Core.Logic.{◌≢◌}
use mathlib.Core.Bool.{true, false, false≢true}
use mathlib.Core.List.{List}
use Prim.Native.Nat.{ℕ, ◌<◌}
use native.Mathlib.Omega.{arith}
use borrow.Author.Tests.{eq-eqb, ne_eqb}
use Rattle.error.specs.Codes.{is_ok}
use Rattle.error.specs.Answer.{Answer}
use Rattle.words.specs.Tag.{cpu_of, thread_of}
use Rattle.words.proofs.Tags.{thread_nonzero, thread_alone}
use Rattle.order.specs.Outcome.{Outcome, answer_of}
use Rattle.machine.specs.State.{lock_count, tag_bits, thread_word, names, is_current, cpu_at, thread_at, lock_at}
use Rattle.machine.specs.declared.Setup.{Setup}
use Rattle.machine.specs.declared.Run.{Run}
use Rattle.machine.specs.declared.Cpu.{Cpu}
use Rattle.machine.specs.declared.Thread.{Thread}
use Rattle.machine.specs.declared.Lock.{Lock}
use Rattle.machine.specs.declared.Machine.{Machine}
use Rattle.machine.proofs.CurrentThread.{current_is}
use Rattle.record.specs.Record.{request, request_of}
use Rattle.record.specs.declared.CpuOperation.{CpuOperation}
use Rattle.record.specs.declared.Operation.{Operation}
use Rattle.rules.specs.Rules.{done, unseated, take}
use Rattle.wellformed.specs.WellFormed.{well_formed}
use Rattle.wellformed.proofs.Facts.{Runs, WellFormed, says}
use Rattle.operations.specs.Operations.{two}
use Rattle.operations.specs.Asked.{answered, next}
use Rattle.operations.proofs.Lengths.{Lengths}
use Rattle.operations.proofs.Setups.{next_setup}
use Rattle.operations.proofs.Unwound.{unwound_machine, accepted_reply, accepted_after}
use Rattle.kept.proofs.Depths.{held_word}
use Rattle.kept.proofs.Locked.{named}
use Rattle.kept.proofs.Ranges.{asks_in_range}
use Rattle.kept.proofs.Unwinds.{back_names, unwound_cpus, unwound_lock, unwound_kept}
use Rattle.job.specs.Job.{OwnsNothing, HoldsNothing, Accepted}
use Rattle.job.specs.Stopped.{Unwinds}
use Rattle.job.proofs.NoInheritance.{owner_cases, owner_word}

-- The thread of a CPU that holds nothing owns nothing: it runs nowhere else.
module _ (m : Machine) (w : WellFormed m) (c t : ℕ) (hc : c < m.setup.n) (runs : Runs m c t) (none : HoldsNothing m c) where
  no_owner : (l : ℕ) → l < lock_count → (lock_at m l).state.owner ≢ Some t
  no_owner l h owned =
      let word = (lock_at m l).word in
      let cpu = named m w c l t hc h runs owned in
      let some = held_word m.setup (lock_at m l) t ((w.locks l h).held t owned) in
      let yes : names m.setup word c ≡ true = rw (ne_eqb word 0 some, eq-eqb (cpu_of (tag_bits m.setup) word) c cpu) in
      false≢true (sym (none.word l h) ∙ yes)

  no_word : (l : ℕ) → l < lock_count → thread_of (tag_bits m.setup) (lock_at m l).word ≢ thread_word m.setup t
  no_word l h e =
      owner_cases ⊥ (lock_at m l).state.owner
      (λ free. thread_nonzero (tag_bits m.setup) _ (sym e ∙ rw ((w.locks l h).free free).word (omega arith)))
      (λ u some.
      let same : u ≡ t = thread_alone (tag_bits m.setup) u t (sym (owner_word m w l h u some) ∙ e) in
      no_owner l h (rw (sym same) some))

  owns_nothing : OwnsNothing m t
  owns_nothing = record { owner = no_owner; word = no_word }

module _ (m : Machine) (s : Lengths m) (good : well_formed m ≡ true) (c t : ℕ) (runs : Runs m c t) (unwind : List ℕ) {z : ℕ}
    (asks : request_of m.setup unwind ≡ request Operation.Unwind c t z) where
  w : WellFormed m
  w = says m good

  inside : c < m.setup.n
  inside = (rw asks at (asks_in_range m w unwind)).cpu

  current : is_current (cpu_at m c).run.current t ≡ true
  current = current_is (cpu_at m c).run.current t runs

  pub then : next m unwind ≡ unwound_machine m c
  unfolding next
  then = rw asks (accepted_after m c t s.locks current)

  lock_then : (l : ℕ) → lock_at (next m unwind) l ≡ lock_at (unwound_machine m c) l
  lock_then l = ap (λ (x : Machine). lock_at x l) then

  same_run : (cpu_at (next m unwind) c).run ≡ (cpu_at m c).run
  same_run = ap (λ (x : Machine). (cpu_at x c).run) then ∙ ap (λ (x : Cpu). x.run) (unwound_cpus m s w c inside).there

  no_hold : (cpu_at (next m unwind) c).hold ≡ 0
  no_hold = ap (λ (x : Machine). (cpu_at x c).hold) then ∙ ap (λ (x : Cpu). x.hold) (unwound_cpus m s w c inside).there

  holds_nothing : HoldsNothing (unwound_machine m c) c
  holds_nothing =
      record {
        word = λ l _. ap (λ (x : Lock). names m.setup x.word c) (unwound_lock m s w c inside l) ∙ back_names m.setup c (lock_at m l);
        hold = ap (λ (x : Cpu). x.hold) (unwound_cpus m s w c inside).there;
      }

  still_runs : Runs (unwound_machine m c) c t
  still_runs = ap (λ (x : Cpu). x.run.current) (unwound_cpus m s w c inside).there ∙ runs

  pub unwinds : Unwinds m unwind c t
  unfolding answered
  unwinds =
      record {
        answer = rw asks (accepted_reply m c t s.locks current);
        freed = λ l e. lock_then l ∙ unwound_lock m s w c inside l ∙ rw e;
        others = λ l e. lock_then l ∙ unwound_lock m s w c inside l ∙ rw e;
        hold = no_hold;
        run = same_run;
        cpus = λ d other. ap (λ (x : Machine). cpu_at x d) then ∙ (unwound_cpus m s w c inside).elsewhere d other;
        threads = ap (λ (x : Machine). x.threads) then;
        owns = rw then (owns_nothing (unwound_machine m c) (unwound_kept m s w c inside) c t inside still_runs holds_nothing);
        holds = rw then holds_nothing;
      }

  -- The take right after it finds the thread there and no hold.
  take_done : (h : ℕ) (r : Run) (k : Thread) → h ≡ 0 → r ≡ (cpu_at m c).run → take t h r k ≡ done 0 (unseated k)
  unfolding take
  take_done h r k none same = rw (same, current, none)

  pub take_accepted : (bytes : List ℕ) {y : ℕ} → request_of m.setup bytes ≡ request (Operation.OnCpu CpuOperation.Take) c t y
      → Accepted (next m unwind) bytes (request (Operation.OnCpu CpuOperation.Take) c t y)
  unfolding answered
  take_accepted bytes takes =
      let asked = ap (λ (x : Setup). request_of x bytes) (next_setup m unwind) ∙ takes in
      record {
        asks = asked;
        ok = rw asked
            (ap (λ (o : Outcome (Answer ℕ) (Run × Thread)). is_ok (answer_of (two o)).code)
            (take_done (cpu_at (next m unwind) c).hold (cpu_at (next m unwind) c).run (thread_at (next m unwind) t) no_hold same_run));
      }

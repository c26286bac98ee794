-- A fresh machine is well-formed, of either width and with any number of CPUs that its tags tell apart; so is the machine of every setup byte,
-- of a bad one too. Assumes nothing.
use mathlib.Core.Path.{◌≡◌, refl}
use mathlib.Core.Bool.{Bool, true, false, cond, false≢true}
use Prim.Native.Nat.{ℕ, ◌*◌, ◌^◌, ◌%◌, ◌≤◌, ◌<◌}
use native.Mathlib.Omega.{arith}
use lib.Count.{ones}
use lib.Dec.{leb, eqb}
use lib.IntN.{pos}
use lib.Pow.{pow-lt}
use lib.ListN.{get_or-replicate}
use borrow.Author.Tests.{leb-true}
use Rattle.error.specs.Codes.{OK}
use Rattle.error.specs.Answer.{answer}
use Rattle.words.proofs.Choice.{bool_ind, and_left, and_right}
use Rattle.machine.specs.State.{
  cpu_slots,
  thread_count,
  lock_count,
  tag_bits,
  setup_ok,
  is_priority,
  no_cpu,
  no_thread,
  cpu_at,
  thread_at,
  lock_at,
  fresh_cpu,
  fresh_thread,
  free_lock,
  thread_mask,
  fresh_threads,
  fresh_machine,
  least_setup,
  not_made,
  fresh,
  setup_of,
  setup,
}
use Rattle.machine.specs.declared.Setup.{Setup}
use Rattle.machine.specs.declared.Machine.{Machine}
use Rattle.machine.proofs.Priority.{priority_says}
use Rattle.machine.proofs.Size.{sized}
use Rattle.element_tests.specs.Elements.{depth_for}
use Rattle.wellformed.specs.WellFormed.{hold_sum, well_formed}
use Rattle.wellformed.proofs.Facts.{run_at, current_at, hold_at, GoodCpu, GoodThread, GoodLock, GoodHold, says_back}
use Rattle.kept.proofs.Apart.{none_or_thread, nowhere_or_on, none_or_owner}
use Rattle.kept.proofs.Sums.{sum_most}

abbrev fresh_of : Setup → Machine
fresh_of s = fresh_machine s (fresh_threads s)

module _ (s : Setup) where
  cpu_is : (c : ℕ) → c < cpu_slots → cpu_at (fresh_of s) c ≡ fresh_cpu
  unfolding fresh_machine
  cpu_is c h = get_or-replicate cpu_slots c fresh_cpu no_cpu h

  thread_is : (t : ℕ) → t < thread_count → thread_at (fresh_of s) t ≡ fresh_thread s.pin_only
  unfolding fresh_machine
  thread_is t h = get_or-replicate thread_count t (fresh_thread s.pin_only) no_thread h

  lock_is : (l : ℕ) → l < lock_count → lock_at (fresh_of s) l ≡ free_lock
  unfolding fresh_machine
  lock_is l h = get_or-replicate lock_count l free_lock free_lock h

  good_cpu : (c : ℕ) → c < cpu_slots → GoodCpu s (thread_at (fresh_of s)) c (run_at (fresh_of s) c)
  unfolding fresh_machine
  good_cpu c h =
      rw (cpu_is c h) (record { down = λ _. refl; current = λ t e. absurd (none_or_thread e); idle = λ _. refl })

  -- With pin-only it is CPU 0's bit, and there is a CPU 0.
  fresh_mask : (pinOnly : Bool) → pinOnly ≡ true → ones (thread_mask pinOnly) ≡ 1
  unfolding thread_mask ones
  fresh_mask true e = refl
  fresh_mask false e = absurd (false≢true e)

  fresh_below : (pinOnly : Bool) → pinOnly ≡ true → 1 ≤ s.n → thread_mask pinOnly < 2 ^ s.n
  unfolding thread_mask
  fresh_below true e some = pow-lt some
  fresh_below false e some = absurd (false≢true e)

  good_thread : 1 ≤ s.n → (t : ℕ) → t < thread_count → GoodThread s (current_at (fresh_of s)) t (thread_at (fresh_of s) t)
  unfolding is_priority fresh_machine
  good_thread some t h =
      let range = priority_says (pos 0) refl in
      rw (thread_is t h) (record {
        place = λ c e. absurd (nowhere_or_on e);
        fit = record {
          least = range.0;
          greatest = range.1;
          mask = record { one = fresh_mask s.pin_only; below = λ pinned. fresh_below s.pin_only pinned some };
        };
      })

  good_lock : (l : ℕ) → l < lock_count → GoodLock s (current_at (fresh_of s)) (lock_at (fresh_of s) l)
  unfolding fresh_machine
  good_lock l h =
      rw (lock_is l h) (record {
        free = λ _. record { depth = refl; flag = refl; word = refl };
        held = λ t e. absurd (none_or_owner e);
      })

  no_depth : (c : ℕ) → hold_sum (fresh_of s) c ≡ 0
  unfolding fresh_machine
  no_depth c =
      let most : hold_sum (fresh_of s) c ≤ lock_count * 0 =
      sum_most (λ l. depth_for s (lock_at (fresh_of s) l) c) lock_count 0 (λ l h. rw (lock_is l h) (omega arith)) in
      omega arith

  good_hold : (c : ℕ) → c < cpu_slots → GoodHold s c (hold_at (fresh_of s) c) (hold_sum (fresh_of s) c)
  unfolding fresh_machine
  good_hold c h = rw (cpu_is c h, no_depth c) (record { is = refl; unused = λ _. refl })

  pub fresh_formed : 1 ≤ s.n → s.n ≤ 2 ^ tag_bits s → well_formed (fresh_of s) ≡ true
  unfolding fresh_machine
  fresh_formed some few =
      says_back (fresh_of s) (record {
        size = sized s some few;
        seats = record { cpus = good_cpu; threads = good_thread some };
        locks = good_lock;
        counts = good_hold;
      })

-- So is the machine of every setup byte: that of a bad one is the fresh one of one CPU.
not_made_formed : well_formed not_made.value ≡ true
unfolding not_made
not_made_formed = fresh_formed least_setup (omega arith) (omega arith)

made_formed : (s : Setup) → well_formed (fresh s).value ≡ true
unfolding fresh
made_formed s =
    bool_ind (λ ok. well_formed (cond ok (answer OK (fresh_of s)) not_made).value ≡ true) (setup_ok s)
    (λ ok. fresh_formed s (leb-true 1 s.n (and_left (leb 1 s.n) _ ok)) (leb-true s.n (2 ^ tag_bits s) (and_right (leb 1 s.n) _ ok)))
    (λ _. not_made_formed)

pub setup_formed : (byte : ℕ) → well_formed (setup byte).value ≡ true
unfolding setup
setup_formed byte =
    bool_ind (λ ok. well_formed (cond ok (fresh (setup_of byte)) not_made).value ≡ true) (eqb (byte % 4) 0)
    (λ _. made_formed (setup_of byte)) (λ _. not_made_formed)

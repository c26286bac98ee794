-- An acquire, a nested acquire and a release that the lock's rule accepts leave the machine well-formed, in each of the ways of `Walk`. A lock
-- of the CPU's current thread is a lock of that CPU, for the thread runs nowhere else. Assumes nothing.
use Rattle.std.specs.Prelude.{Option, None, Some}
use mathlib.Core.Path.{◌≡◌, refl, sym, ap, ◌∙◌}
use mathlib.Core.Bool.{true, cond}
use Prim.Native.Nat.{ℕ, ◌+◌, ◌-◌, ◌^◌, ◌≤◌, ◌<◌}
use native.Mathlib.Omega.{arith}
use lib.Dec.{eqb}
use borrow.Author.Tests.{lt-ltb, eqb-true, eqb-false}
use Rattle.error.proofs.Answers.{same_value}
use Rattle.words.specs.Tag.{word_of, cpu_of}
use Rattle.words.proofs.Choice.{bool_ind}
use Rattle.words.proofs.Tags.{word_taggable, word_has_cpu, word_nonzero}
use Rattle.spinlock_validate.proofs.Laws.{makes}
use Rattle.spinlock.specs.Lock.{max_nest_depth, free_record, taken_by, deeper, shallower, valid_record}
use Rattle.spinlock.specs.declared.SpinlockState.{SpinlockState}
use Rattle.spinlock.specs.declared.Operation.{Operation}
use Rattle.spinlock.proofs.Situations.{HeldBy, free}
use Rattle.spinlock.proofs.Laws.{held_valid}
use Rattle.machine.specs.State.{cpu_slots, lock_count, tag_bits, thread_word, cpu_at, thread_at, lock_at}
use Rattle.machine.specs.declared.Lock.{Lock}
use Rattle.machine.specs.declared.Machine.{Machine}
use Rattle.rules.specs.Rules.{word_after, lock_op, one_more, moved}
use Rattle.element_tests.specs.Elements.{depth_for}
use Rattle.wellformed.specs.WellFormed.{hold_sum}
use Rattle.wellformed.proofs.Facts.{run_at, current_at, Runs, Carried, GoodLock, WellFormed}
use Rattle.kept.proofs.Apart.{none_or_owner, same_cpu, same_owner}
use Rattle.kept.proofs.Accepted.{Accepting}
use Rattle.kept.proofs.Sums.{sum_term}
use Rattle.kept.proofs.Tagged.{cpu_fits}
use Rattle.kept.proofs.Depths.{depth_named, depth_zero, depth_other, held_word, hold_most}
use Rattle.kept.proofs.Locks.{Relocks}
use Rattle.kept.proofs.Walk.{leaves, Ways, walked, told_accepting}

-- The lock records of a well-formed machine are valid.
pub lock_is_valid : (m : Machine) → WellFormed m → (l : ℕ) → l < lock_count → valid_record (lock_at m l).state ≡ true
unfolding valid_record
lock_is_valid m w l h = go (lock_at m l).state.owner refl
  where
    go : (o : Option ℕ) → (lock_at m l).state.owner ≡ o → valid_record (lock_at m l).state ≡ true
    go None e = let f = (w.locks l h).free e in rw (e, f.depth, f.flag)
    go (Some t) e = let f = (w.locks l h).held t e in held_valid (lock_at m l).state t e f.some f.most

-- The owner of a lock is carried by the CPU that its word names.
pub owner_carried : (m : Machine) → WellFormed m → (l : ℕ) → l < lock_count → (t : ℕ) → (lock_at m l).state.owner ≡ Some t
    → let c = cpu_of (tag_bits m.setup) (lock_at m l).word in Carried c t (run_at m c) (thread_at m t)
owner_carried m w l h t owned =
    let was = (w.locks l h).held t owned in
    let inside : cpu_of (tag_bits m.setup) (lock_at m l).word < cpu_slots = omega (arith, was.below, w.size.few) in
    (w.seats.cpus _ inside).current (record { 0 = t }) was.current

module _ (m : Machine) (w : WellFormed m) (c l t : ℕ) (hc : c < m.setup.n) (hl : l < lock_count) (runs : Runs m c t) where
  hc' : c < cpu_slots
  hc' = omega (arith, w.size.few)

  -- The tag of an owner word can hold the CPU.
  fits : c < 2 ^ tag_bits m.setup
  fits = cpu_fits m w c hc

  more : one_more (cpu_at m c).hold ≡ (cpu_at m c).hold + 1
  more = rw (lt-ltb (cpu_at m c).hold 0xffff_ffff (hold_most m w c hc'))

  -- A lock of the CPU's thread is a good one, if its word is made from the two.
  owned_good : (v : Lock) → v.state.owner ≡ Some t → 1 ≤ v.state.nest_count → v.state.nest_count ≤ max_nest_depth
      → v.state.irq_saved ≡ true → cpu_of (tag_bits m.setup) v.word ≡ c → v.word ≡ word_of c (thread_word m.setup t)
      → GoodLock m.setup (current_at m) v
  owned_good v owner some most flag cpu word =
      record {
        free = λ e. absurd (none_or_owner (sym e ∙ owner));
        held = λ u e.
            let same : t ≡ u = same_owner (sym owner ∙ e) in
            record {
              some = some;
              most = most;
              flag = flag;
              word = word ∙ rw (cpu, same);
              below = rw cpu hc;
              current = rw (cpu, sym same) runs;
            };
      }

  -- A free lock is taken.
  taken : (v : Lock) → (lock_at m l).state.owner ≡ None → v.state ≡ taken_by t → v.word ≡ word_of c (thread_word m.setup t)
      → Relocks m c l (one_more (cpu_at m c).hold) v
  taken v none state word =
      let was = (w.locks l hl).free none in
      let owner : v.state.owner ≡ Some t = ap (λ (x : SpinlockState). x.owner) state in
      let depth : v.state.nest_count ≡ 1 = ap (λ (x : SpinlockState). x.nest_count) state in
      let k = tag_bits m.setup in
      let cpu : cpu_of k v.word ≡ c = ap (cpu_of k) word ∙ word_has_cpu k c t fits in
      let some : v.word ≡ 0 → ⊥ = λ e. word_nonzero k c t (sym word ∙ e) in
      record {
        good = owned_good v owner (omega arith) (omega arith) (ap (λ (x : SpinlockState). x.irq_saved) state) cpu word;
        moves = rw (more, depth_zero m.setup (lock_at m l) c was.word, depth_named m.setup v c some cpu, depth) (omega arith);
        others = λ d other. depth_other m.setup v d (λ e. other (sym e ∙ cpu)) ∙ sym (depth_zero m.setup (lock_at m l) d was.word);
      }

  -- An own lock: its word names the CPU.
  module _ (owned : (lock_at m l).state.owner ≡ Some t) where
    pub named : cpu_of (tag_bits m.setup) (lock_at m l).word ≡ c
    named =
        let here = ((w.seats.cpus c hc').current (record { 0 = t }) runs).place in
        same_cpu (sym here ∙ (owner_carried m w l hl t owned).place)

    depth_is : depth_for m.setup (lock_at m l) c ≡ (lock_at m l).state.nest_count
    depth_is = depth_named m.setup (lock_at m l) c (held_word m.setup (lock_at m l) t ((w.locks l hl).held t owned)) named

    pub hold_least : (lock_at m l).state.nest_count ≤ (cpu_at m c).hold
    hold_least =
        let term : depth_for m.setup (lock_at m l) c ≤ hold_sum m c = sum_term (λ i. depth_for m.setup (lock_at m i) c) lock_count l hl in
        omega (arith, depth_is, (w.counts c hc').is)

    -- It goes to another level, with its owner, flag and word.
    leveled : (h : ℕ) (v : Lock) → v.state.owner ≡ Some t → v.state.irq_saved ≡ (lock_at m l).state.irq_saved
        → v.word ≡ (lock_at m l).word → 1 ≤ v.state.nest_count → v.state.nest_count ≤ max_nest_depth
        → h + (lock_at m l).state.nest_count ≡ (cpu_at m c).hold + v.state.nest_count → Relocks m c l h v
    leveled h v owner flag word some most moves =
        let was = (w.locks l hl).held t owned in
        let cpu : cpu_of (tag_bits m.setup) v.word ≡ c = ap (cpu_of (tag_bits m.setup)) word ∙ named in
        let nonzero : v.word ≡ 0 → ⊥ = λ e. held_word m.setup (lock_at m l) t was (sym word ∙ e) in
        record {
          good = owned_good v owner some most (flag ∙ was.flag) cpu (word ∙ was.word ∙ ap (λ (x : ℕ). word_of x (thread_word m.setup t)) named);
          moves = rw (depth_is, depth_named m.setup v c nonzero cpu) moves;
          others = λ d other.
              depth_other m.setup v d (λ e. other (sym e ∙ cpu)) ∙ sym (depth_other m.setup (lock_at m l) d (λ e. other (sym e ∙ named)));
        }

    -- It is freed, from level 1.
    freed : (v : Lock) → v.state ≡ free_record → v.word ≡ 0 → (lock_at m l).state.nest_count ≡ 1 → Relocks m c l ((cpu_at m c).hold - 1) v
    freed v state word one =
        let least = hold_least in
        record {
          good = record {
            free = λ _.
                record {
                  depth = ap (λ (x : SpinlockState). x.nest_count) state;
                  flag = ap (λ (x : SpinlockState). x.irq_saved) state;
                  word = word;
                };
            held = λ u e. absurd (none_or_owner (ap (λ (x : SpinlockState). x.owner) (sym state) ∙ e));
          };
          moves = rw (depth_is, depth_zero m.setup v c word) (omega arith);
          others = λ d other. depth_zero m.setup v d word ∙ sym (depth_other m.setup (lock_at m l) d (λ e. other (sym e ∙ named)));
        }

  pub word_held : (v : SpinlockState) (u x : ℕ) → v.owner ≡ Some u → (lock_at m l).state.owner ≡ Some x
      → word_after m.setup c t (lock_at m l) v ≡ (lock_at m l).word
  word_held v u x now before = rw (now, before)

  pub word_made : (v : SpinlockState) → v.owner ≡ Some t → (lock_at m l).state.owner ≡ None
      → word_after m.setup c t (lock_at m l) v ≡ word_of c (thread_word m.setup t)
  word_made v now before =
      let k = tag_bits m.setup in
      rw (now, before) (same_value (makes k c (thread_word m.setup t) (word_taggable k c t fits)))

  taken_here : (lock_at m l).state ≡ free_record
      → Relocks m c l (one_more (cpu_at m c).hold) (leaves m.setup c t (lock_at m l) (taken_by t))
  taken_here e =
      let none : (lock_at m l).state.owner ≡ None = ap (λ (x : SpinlockState). x.owner) e in
      taken _ none refl (word_made (taken_by t) refl none)

  released : HeldBy (lock_at m l).state t
      → Relocks m c l ((cpu_at m c).hold - 1) (leaves m.setup c t (lock_at m l) (shallower (lock_at m l).state))
  released mine =
      let state = (lock_at m l).state in
      let depth = state.nest_count in
      let lower : SpinlockState = record { owner = state.owner; nest_count = depth - 1; irq_saved = state.irq_saved } in
      bool_ind (λ b. Relocks m c l ((cpu_at m c).hold - 1) (leaves m.setup c t (lock_at m l) (cond b free_record lower))) (eqb depth 1)
      (λ one. freed mine.owner _ refl refl (eqb-true depth 1 one)) (λ more.
      let some = mine.some in
      let most = mine.most in
      let two : depth ≡ 1 → ⊥ = eqb-false depth 1 more in
      let least = hold_least mine.owner in
      leveled mine.owner _ _ mine.owner refl (word_held lower t t mine.owner mine.owner) (omega arith) (omega arith) (omega arith))

  ways : Ways m.setup c t (lock_at m l) (λ op. Relocks m c l (moved op (cpu_at m c).hold))
  ways =
      record {
        taken = λ nested. taken_here;
        deepened = λ mine below.
            let some = mine.some in
            let word = word_held (deeper (lock_at m l).state) t t mine.owner mine.owner in
            leveled mine.owner _ _ mine.owner refl word (omega arith) (omega arith) (rw more (omega arith));
        released = released;
      }

-- What the lock's rule hands back makes a good change, with the hold that moves.
pub lock_accepted : (m : Machine) → WellFormed m → (c l : ℕ) → c < m.setup.n → l < lock_count → (op : Operation)
    → Accepting (Relocks m c l (moved op (cpu_at m c).hold)) (lock_op m.setup op c (cpu_at m c).run (lock_at m l))
lock_accepted m w c l hc hl op =
    told_accepting (Relocks m c l (moved op (cpu_at m c).hold)) (lock_op m.setup op c (cpu_at m c).run (lock_at m l))
    (walked m.setup c (cpu_at m c).run (lock_at m l) (lock_is_valid m w l hl) (λ op. Relocks m c l (moved op (cpu_at m c).hold))
    (λ t runs. ways m w c l t hc hl runs) op)

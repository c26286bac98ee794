-- Nothing is lost: a release right after an accepted acquire of either kind by the same CPU is accepted, and the machine is the one before
-- the two. Assumes nothing.
use Rattle.std.specs.Prelude.{Option, None, Some}
use Rattle.machine.specs.declared.ThreadId.{ThreadId}
use mathlib.Core.Path.{◌≡◌, refl, ap, ap₂, sym, ◌∙◌}
use mathlib.Core.Bool.{Bool, true, false, false≢true}
use mathlib.Core.List.{List, [], ◌∷◌}
use Prim.Native.Nat.{ℕ, zero, suc, ◌-◌, ◌<◌}
use native.Mathlib.Omega.{arith}
use lib.ListN.{set, get_or}
use borrow.Author.Tests.{lt-ltb}
use Rattle.error.specs.Codes.{OK, is_ok}
use Rattle.error.specs.Answer.{Answer, answer}
use Rattle.words.specs.Tag.{word_of}
use Rattle.words.proofs.Tags.{word_taggable}
use Rattle.spinlock_validate.proofs.Laws.{Makes, makes, unlock_own}
use Rattle.error.proofs.Answers.{same_value}
use Rattle.spinlock.specs.Table.{code_of}
use Rattle.spinlock.specs.Lock.{max_nest_depth, free_record, taken_by, deeper, valid_record, situation_at, after, operate}
use Rattle.spinlock.specs.declared.SpinlockState.{SpinlockState}
use Rattle.spinlock.specs.declared.Operation.{Operation as LockOperation}
use Rattle.spinlock.proofs.Situations.{HeldBy, below_is_own}
use Rattle.spinlock.proofs.Laws.{operated, release_undoes, acquire_then_release}
use Rattle.order.specs.Outcome.{Outcome, refuse, accept, answer_of}
use Rattle.order.specs.Cells.{commit}
use Rattle.machine.specs.State.{cpu_slots, thread_count, lock_count, is_thread, tag_bits, thread_word, no_cpu, free_lock, cpu_at, lock_at}
use Rattle.machine.specs.declared.CpuId.{CpuId}
use Rattle.machine.specs.declared.LockId.{LockId}
use Rattle.machine.specs.declared.Run.{Run}
use Rattle.machine.specs.declared.Cpu.{Cpu}
use Rattle.machine.specs.declared.Lock.{Lock}
use Rattle.machine.specs.declared.Machine.{Machine}
use Rattle.record.specs.Record.{request}
use Rattle.record.specs.declared.Operation.{Operation}
use Rattle.rules.specs.Rules.{elsewhere, ruled, word_after, settled, lock_by, lock_op, moved}
use Rattle.wellformed.specs.WellFormed.{well_formed}
use Rattle.wellformed.proofs.Facts.{Runs, WellFormed, says}
use Rattle.operations.specs.Cells.{hold, lock, put, machine_store}
use Rattle.operations.specs.Operations.{with_hold}
use Rattle.operations.specs.Asked.{answered, next}
use Rattle.kept.proofs.Depths.{hold_most}
use Rattle.operations.proofs.Lengths.{Lengths}
use Rattle.kept.proofs.Stored.{cpu_there, lock_there}
use Rattle.kept.proofs.Walk.{leaves, Ways, Told, walked}
use Rattle.kept.proofs.Locked.{named, lock_is_valid}
use Rattle.kept.proofs.Tagged.{cpu_fits}
use Rattle.kept.proofs.Ranges.{asks_in_range}
use Rattle.job.specs.Job.{Accepted, Gives}

-- A release of this lock, by the CPU's thread, gives back the lock of the machine.
pub record Undone (m : Machine) (c l : ℕ) (v : Lock) : Type 0 where
  pub back : lock_op m.setup LockOperation.Release c (cpu_at m c).run v ≡ accept (answer OK (lock_at m l).state.nest_count) (lock_at m l)

-- Of an acquire that is to be shown, and of a release nothing.
abbrev UndoneBy : Machine → ℕ → ℕ → LockOperation → Lock → Type 0
UndoneBy m c l (LockOperation.Acquire nested) v = Undone m c l v
UndoneBy m c l LockOperation.Release v = Unit {0}

module _ (m : Machine) (w : WellFormed m) (c l t : ℕ) (hc : c < m.setup.n) (hl : l < lock_count) (runs : Runs m c t) where
  -- The word that CPU c and thread t make.
  abbrev ours : ℕ
  ours = word_of c (thread_word m.setup t)

  -- They can make it.
  ours_made : Makes (tag_bits m.setup) c (thread_word m.setup t) ours
  ours_made = makes (tag_bits m.setup) c (thread_word m.setup t) (word_taggable (tag_bits m.setup) c t (cpu_fits m w c hc))

  -- Where that is the lock's word, the thread is not elsewhere.
  here : (v : Lock) → v.word ≡ ours → elsewhere m.setup c t v ≡ false
  here v word = rw (word, same_value (unlock_own (tag_bits m.setup) c (thread_word m.setup t) ours ours_made))

  -- A current thread is one of the machine's.
  t_is_thread : is_thread t ≡ true
  t_is_thread = lt-ltb t thread_count ((w.seats.cpus c (omega (arith, w.size.few))).current (record { 0 = t }) runs).below

  -- A lock with that word, whose record a release takes back to the machine's, is undone.
  released : (v : Lock) → v.word ≡ ours → operate LockOperation.Release v.state t false ≡ answer OK (lock_at m l).state
      → word_after m.setup c t v (lock_at m l).state ≡ (lock_at m l).word → Undone m c l v
  unfolding lock_op
  released v word rule after-word = record { back = of_current (cpu_at m c).run.current runs }
    where
      gives : settled m.setup c t v (ruled m.setup LockOperation.Release c t v) ≡ accept (answer OK (lock_at m l).state.nest_count) (lock_at m l)
      gives = rw (here v word, rule, after-word)

      of_current : (o : Option ThreadId) → o ≡ Some (record { 0 = t })
          → lock_by m.setup LockOperation.Release c o v ≡ accept (answer OK (lock_at m l).state.nest_count) (lock_at m l)
      of_current o e = rw (e, t_is_thread) gives

  -- A free lock that was taken, and an own one that went a level up.
  taken : (lock_at m l).state ≡ free_record → Undone m c l (leaves m.setup c t (lock_at m l) (taken_by t))
  unfolding operate valid_record situation_at code_of after
  taken e =
      let none : (lock_at m l).state.owner ≡ None = ap (λ (x : SpinlockState). x.owner) e in
      let made : word_after m.setup c t (lock_at m l) (taken_by t) ≡ ours = rw none (same_value ours_made) in
      released _ made ((acquire_then_release t).1 ∙ ap (answer OK) (sym e)) (rw none (sym ((w.locks l hl).free none).word))

  went_up : HeldBy (lock_at m l).state t → operate LockOperation.Release (deeper (lock_at m l).state) t false ≡ answer OK (lock_at m l).state
      → Undone m c l (leaves m.setup c t (lock_at m l) (deeper (lock_at m l).state))
  went_up mine rule =
      let owner = mine.owner in
      let same : word_after m.setup c t (lock_at m l) (deeper (lock_at m l).state) ≡ (lock_at m l).word = rw owner in
      let made : (lock_at m l).word ≡ ours =
      ((w.locks l hl).held t owner).word ∙ ap (λ x. word_of x (thread_word m.setup t)) (named m w c l t hc hl runs owner) in
      released _ (same ∙ made) rule (rw owner)

  -- A release undoes the level that a nested acquire went up.
  up_and_down : HeldBy (lock_at m l).state t → (lock_at m l).state.nest_count < max_nest_depth
      → operate LockOperation.Release (deeper (lock_at m l).state) t false ≡ answer OK (lock_at m l).state
  unfolding code_of after
  up_and_down mine below =
      let rule = operated (LockOperation.Acquire true) (lock_at m l).state t false (lock_is_valid m w l hl) (below_is_own (lock_at m l).state t mine.owner below) in
      ap (λ (a : Answer SpinlockState). operate LockOperation.Release a.value t false) (sym rule)
      ∙ release_undoes true (lock_at m l).state t false (ap (λ (a : Answer SpinlockState). a.code) rule)

  ways : Ways m.setup c t (lock_at m l) (UndoneBy m c l)
  ways =
      record {
        taken = λ nested. taken;
        deepened = λ mine below. went_up mine (up_and_down mine below);
        released = λ _. tt;
      }

acquire_undone : (m : Machine) → WellFormed m → (c l : ℕ) → c < m.setup.n → l < lock_count → (nested : Bool)
    → Told (Undone m c l) (lock_op m.setup (LockOperation.Acquire nested) c (cpu_at m c).run (lock_at m l))
acquire_undone m w c l hc hl nested =
    walked m.setup c (cpu_at m c).run (lock_at m l) (lock_is_valid m w l hl) (UndoneBy m c l) (λ t runs. ways m w c l t hc hl runs)
    (LockOperation.Acquire nested)

-- What is stored over a place, and then what stood there, leaves a list as it was.
set_back : {A : Type 0} (xs : List A) (i : ℕ) (v d : A) → set (set xs i v) i (get_or xs i d) ≡ xs
set_back [] i v d = refl
set_back (x ∷ xs) zero v d = refl
set_back (x ∷ xs) (suc i) v d = ap (λ (r : List _). x ∷ r) (set_back xs i v d)

-- The machine with lock l and the hold of CPU c changed, and changed back.
module _ (m : Machine) (s : Lengths m) (c l : ℕ) (hc : c < cpu_slots) (hl : l < lock_count) where
  abbrev relocked : ℕ → Lock → Machine → Machine
  relocked h v x = put (lock l) v (put (hold c) h x)

  changed_back : (h : ℕ) (v : Lock) → relocked (cpu_at m c).hold (lock_at m l) (relocked h v m) ≡ m
  changed_back h v =
      λ i. record { setup = m.setup; cpus = same_cpus i; threads = m.threads; locks = set_back m.locks l v free_lock i }
    where
      there : (cpu_at (relocked h v m) c).run ≡ (cpu_at m c).run
      there = ap (λ (x : Cpu). x.run) (cpu_there m s c (record { run = (cpu_at m c).run; hold = h }) hc)

      same_cpus : (relocked (cpu_at m c).hold (lock_at m l) (relocked h v m)).cpus ≡ m.cpus
      same_cpus =
          ap (λ (r : Run). set (set m.cpus c (record { run = (cpu_at m c).run; hold = h })) c (record { run = r; hold = (cpu_at m c).hold })) there
          ∙ set_back m.cpus c (record { run = (cpu_at m c).run; hold = h }) no_cpu

  abbrev freed : Machine → Outcome (Answer ℕ) (Lock × (ℕ × Unit {0}))
  freed x = with_hold LockOperation.Release (cpu_at x c).hold (lock_op m.setup LockOperation.Release c (cpu_at x c).run (lock_at x l))

  -- The release's outcome on the machine after the acquire.
  release_outcome : (h : ℕ) (v : Lock) → h - 1 ≡ (cpu_at m c).hold → Undone m c l v
      → freed (relocked h v m) ≡ accept (answer OK (lock_at m l).state.nest_count) (lock_at m l, ((cpu_at m c).hold, tt))
  release_outcome h v less u =
      let cpu : cpu_at (relocked h v m) c ≡ record { run = (cpu_at m c).run; hold = h } = cpu_there m s c _ hc in
      let k : lock_at (relocked h v m) l ≡ v = lock_there m s l v hl in
      ap₂ (λ (x : Cpu) (y : Lock). with_hold LockOperation.Release x.hold (lock_op m.setup LockOperation.Release c x.run y)) cpu k
      ∙ ap (with_hold LockOperation.Release h) u.back
      ∙ ap (λ (x : ℕ). accept (answer OK (lock_at m l).state.nest_count) (lock_at m l, (x, tt))) less

  -- An accepted acquire, then the release: accepted, and the machine as it was.
  abbrev Restored : Machine → Type 0
  Restored x = (commit machine_store (Answer ℕ) (lock l ∷ hold c ∷ []) (freed x) x ≡ m) × (is_ok (answer_of (freed x)).code ≡ true)

  restored : (h : ℕ) (v : Lock) → h - 1 ≡ (cpu_at m c).hold → Undone m c l v → Restored (relocked h v m)
  restored h v less u =
      let out = release_outcome h v less u in (
        ap (λ (o : Outcome (Answer ℕ) (Lock × (ℕ × Unit {0}))). commit machine_store (Answer ℕ) (lock l ∷ hold c ∷ []) o (relocked h v m)) out
            ∙ changed_back h v,
        ap (λ (o : Outcome (Answer ℕ) (Lock × (ℕ × Unit {0}))). is_ok (answer_of o).code) out,
      )

module _ (m : Machine) (s : Lengths m) (w : WellFormed m) (c : CpuId) (l : LockId) (hc : c.0 < m.setup.n) (hl : l.0 < lock_count)
    (nested : Bool) where
  -- The hold that the acquire leaves.
  abbrev raised : ℕ
  raised = moved (LockOperation.Acquire nested) (cpu_at m c.0).hold

  inside : c.0 < cpu_slots
  inside = let few = w.size.few in omega arith

  one_less : raised - 1 ≡ (cpu_at m c.0).hold
  one_less = rw (lt-ltb (cpu_at m c.0).hold 0xffff_ffff (hold_most m w c.0 inside)) (omega arith)

  gives : (v : Lock) → Undone m c.0 l.0 v → Gives m c l (relocked m s c.0 l.0 inside hl raised v m)
  unfolding next answered
  gives v u bytes z asks =
      rw asks (restored m s c.0 l.0 inside hl raised v one_less u)

  abbrev acquired : Outcome (Answer ℕ) Lock → Outcome (Answer ℕ) (Lock × (ℕ × Unit {0}))
  acquired o = with_hold (LockOperation.Acquire nested) (cpu_at m c.0).hold o

  after_acquire : (o : Outcome (Answer ℕ) Lock) → Told (Undone m c.0 l.0) o → is_ok (answer_of (acquired o)).code ≡ true
      → Gives m c l (commit machine_store (Answer ℕ) (lock l.0 ∷ hold c.0 ∷ []) (acquired o) m)
  after_acquire (refuse a) e ok = absurd (false≢true (sym e ∙ ok))
  after_acquire (accept a v) u ok = gives v u.1

-- An accepted acquire of lock l by CPU c, and then a release of it by that CPU: the machine before is the machine after. (An acquire uses no
-- thread: its number z is any.)
pub nothing_lost : (m : Machine) → Lengths m → well_formed m ≡ true → (bytes : List ℕ) (c : CpuId) (l : LockId) {nested : Bool} {z : ℕ}
    → Accepted m bytes (request (Operation.OnLock (LockOperation.Acquire nested)) c.0 z l.0) → Gives m c l (next m bytes)
unfolding next answered lock_op
nothing_lost m s good bytes c l {nested = nested} a =
    let w = says m good in
    let range = rw a.asks at (asks_in_range m w bytes) in
    rw a.asks
    (after_acquire m s w c l range.cpu range.lock nested
    (lock_op m.setup (LockOperation.Acquire nested) c.0 (cpu_at m c.0).run (lock_at m l.0))
    (acquire_undone m w c.0 l.0 range.cpu range.lock nested) (rw a.asks at a.ok))

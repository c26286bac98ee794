-- What well-formed says, as four facts: size, seats, locks and counts. Each is stated over the cells that it speaks of, as functions of the CPU, the
-- thread or the lock, so that it does not see what other cells do. And a law each way between the facts and the test. Assumes nothing.
use Rattle.std.specs.Prelude.{Option, None, Some}
use mathlib.Core.Path.{◌≡◌, refl, ap}
use mathlib.Core.Logic.{◌⊎◌, inl, inr}
use mathlib.Core.Bool.{true, false, ◌&&◌, ◌||◌, not}
use Prim.Native.Nat.{ℕ, ◌^◌, ◌≤◌, ◌<◌}
use native.Mathlib.Omega.{arith}
use lib.Count.{ones}
use lib.Dec.{eqb, leb, ltb}
use lib.IntN.{ℤ, pos, neg_ℤ}
use lib.Signed.{◌≤ℤ◌}
use borrow.Author.Tests.{ltb-true, leb-true, eqb-true, not-true, lt-ltb, le-ltb, le-leb, eq-eqb}
use Rattle.words.specs.Below.{all_below}
use Rattle.words.specs.Bit.{bit}
use Rattle.words.specs.Tag.{word_of, cpu_of}
use Rattle.words.proofs.Below.{both, all_at, all_from}
use Rattle.words.proofs.Choice.{bool_ind, below_or, and_left, and_right}
use Rattle.spinlock.specs.Lock.{max_nest_depth, valid_by, valid_record}
use Rattle.machine.specs.State.{cpu_slots, thread_count, lock_count, tag_bits, thread_word, cpu_at, thread_at, lock_at}
use Rattle.machine.specs.declared.CpuId.{CpuId}
use Rattle.machine.specs.declared.ThreadId.{ThreadId}
use Rattle.machine.specs.declared.Run.{Run}
use Rattle.machine.specs.declared.Thread.{Thread}
use Rattle.machine.specs.declared.Lock.{Lock}
use Rattle.machine.specs.declared.Setup.{Setup}
use Rattle.machine.specs.declared.Machine.{Machine}
use Rattle.machine.proofs.Size.{Size, size_says, says_size}
use Rattle.machine.proofs.CurrentThread.{current_names, current_is}
use Rattle.machine.proofs.Priority.{priority_says, says_priority}
use Rattle.element_tests.specs.Elements.{eq_z, is_place, owner_ok, lock_by, current_by, place_by, idle_by}
use Rattle.element_tests.proofs.Tests.{same_signed, signed_same}
use Rattle.wellformed.specs.WellFormed.{
  size_ok,
  slot_ok,
  lock_ok,
  hold_sum,
  hold_ok,
  current_ok,
  place_ok,
  idle_ok,
  priority_ok,
  mask_ok,
  pin_ok,
  well_formed,
}

-- The run cell, the current thread and the hold of CPU c.
abbrev pub run_at : Machine → ℕ → Run
run_at m c = (cpu_at m c).run

abbrev pub current_at : Machine → ℕ → Option ThreadId
current_at m c = (cpu_at m c).run.current

abbrev pub hold_at : Machine → ℕ → ℕ
hold_at m c = (cpu_at m c).hold

-- Thread t is current on CPU c.
abbrev pub Runs : Machine → ℕ → ℕ → Type 0
Runs m c t = current_at m c ≡ Some (record { 0 = t })

-- ---- seats: run cells and threads

-- CPU c has thread t as its current one, and their cells agree.
pub record Carried (c t : ℕ) (r : Run) (k : Thread) : Type 0 where
  pub below : t < thread_count
  pub active : r.active ≡ true
  pub priority : r.priority ≡ k.priority
  pub place : k.place ≡ Some (record { 0 = c })
  pub allowed : bit c k.mask ≡ true

-- The run cell of CPU c: an unused slot is down, a current thread is carried, and without one the priority is 128.
pub record GoodCpu (s : Setup) (thread : ℕ → Thread) (c : ℕ) (r : Run) : Type 0 where
  pub down : s.n ≤ c → r.active ≡ false
  pub current : (t : ThreadId) → r.current ≡ Some t → Carried c t.0 r (thread t.0)
  pub idle : r.current ≡ None → r.priority ≡ pos 128

-- Thread t has CPU c as its place, whose current thread is o.
pub record Placed (s : Setup) (o : Option ThreadId) (t c : ℕ) : Type 0 where
  pub below : c < s.n
  pub current : o ≡ Some (record { 0 = t })

-- With pin-only a mask has one bit, and no bit from n on.
pub record Pinned (s : Setup) (bits : ℕ) : Type 0 where
  pub one : s.pin_only ≡ true → ones bits ≡ 1
  pub below : s.pin_only ≡ true → bits < 2 ^ s.n

-- The priority and the mask of a thread, whatever its place.
pub record Fit (s : Setup) (p : ℤ) (bits : ℕ) : Type 0 where
  pub least : neg_ℤ (pos 128) ≤ℤ p
  pub greatest : p ≤ℤ pos 127
  pub mask : Pinned s bits

-- The cell of thread t: it is the current thread of its place, and fit.
pub record GoodThread (s : Setup) (current : ℕ → Option ThreadId) (t : ℕ) (k : Thread) : Type 0 where
  pub place : (c : CpuId) → k.place ≡ Some c → Placed s (current c.0) t c.0
  pub fit : Fit s k.priority k.mask

-- Each run cell agrees with the threads, and each thread with the run cells.
pub record Seats (s : Setup) (run : ℕ → Run) (thread : ℕ → Thread) : Type 0 where
  pub cpus : (c : ℕ) → c < cpu_slots → GoodCpu s thread c (run c)
  pub threads : (t : ℕ) → t < thread_count → GoodThread s (λ c. (run c).current) t (thread t)

-- ---- locks, and who runs where

-- A lock with no owner.
pub record FreeLock (k : Lock) : Type 0 where
  pub depth : k.state.nest_count ≡ 0
  pub flag : k.state.irq_saved ≡ false
  pub word : k.word ≡ 0

-- A lock whose owner is thread t; o is the current thread of the CPU that its word names.
pub record HeldLock (s : Setup) (o : Option ThreadId) (k : Lock) (t : ℕ) : Type 0 where
  pub some : 1 ≤ k.state.nest_count
  pub most : k.state.nest_count ≤ max_nest_depth
  pub flag : k.state.irq_saved ≡ true
  pub word : k.word ≡ word_of (cpu_of (tag_bits s) k.word) (thread_word s t)
  pub below : cpu_of (tag_bits s) k.word < s.n
  pub current : o ≡ Some (record { 0 = t })

-- A lock's cell: with no owner it is free, and with an owner it is held.
pub record GoodLock (s : Setup) (current : ℕ → Option ThreadId) (k : Lock) : Type 0 where
  pub free : k.state.owner ≡ None → FreeLock k
  pub held : (t : ℕ) → k.state.owner ≡ Some t → HeldLock s (current (cpu_of (tag_bits s) k.word)) k t

-- Each lock is a good one.
abbrev pub Locks : Setup → (ℕ → Option ThreadId) → (ℕ → Lock) → Type 0
Locks s current lock = (l : ℕ) → l < lock_count → GoodLock s current (lock l)

-- ---- counts: holds and the sums of depths

-- The hold of CPU c is this sum, and 0 of an unused slot.
pub record GoodHold (s : Setup) (c h sum : ℕ) : Type 0 where
  pub is : h ≡ sum
  pub unused : s.n ≤ c → h ≡ 0

-- Each CPU has a good hold, by these sums.
abbrev pub Counts : Setup → (ℕ → ℕ) → (ℕ → ℕ) → Type 0
Counts s hold sum = (c : ℕ) → c < cpu_slots → GoodHold s c (hold c) (sum c)

-- ---- the four facts

pub record WellFormed (m : Machine) : Type 0 where
  pub size : Size m.setup
  pub seats : Seats m.setup (run_at m) (thread_at m)
  pub locks : Locks m.setup (current_at m) (lock_at m)
  pub counts : Counts m.setup (hold_at m) (hold_sum m)

-- ---- each test and its facts

place_names : (place : Option CpuId) (c : ℕ) → is_place place c ≡ true → place ≡ Some (record { 0 = c })
place_names None c e = let o : ◌≡◌ {A = ℕ} 0 1 = cc in absurd (omega arith)
place_names (Some d) c e = let same = eqb-true d.0 c e in ap (λ (n : ℕ). Some (record { 0 = n })) same

place_is : (place : Option CpuId) (c : ℕ) → place ≡ Some (record { 0 = c }) → is_place place c ≡ true
place_is place c e = rw e (eq-eqb c c refl)

slot_says : (m : Machine) (c : ℕ) → slot_ok m c ≡ true → m.setup.n ≤ c → ((run_at m c).active ≡ false) × (hold_at m c ≡ 0)
slot_says m c e h =
    let rest : not (run_at m c).active && eqb (hold_at m c) 0 ≡ true = rw (le-ltb c m.setup.n h) at e in (
      not-true (run_at m c).active (and_left (not (run_at m c).active) _ rest),
      eqb-true (hold_at m c) 0 (and_right (not (run_at m c).active) _ rest),
    )

slot_back : (m : Machine) (c : ℕ) → (m.setup.n ≤ c → (run_at m c).active ≡ false) → (m.setup.n ≤ c → hold_at m c ≡ 0) → slot_ok m c ≡ true
slot_back m c down unused = go (below_or c m.setup.n)
  where
    go : (c < m.setup.n) ⊎ (m.setup.n ≤ c) → slot_ok m c ≡ true
    go (inl h) = rw (lt-ltb c m.setup.n h)
    go (inr h) = rw (le-ltb c m.setup.n h, down h, unused h)

free_says : (m : Machine) (k : Lock) → lock_by m.setup m.cpus k ≡ true → k.state.owner ≡ None → FreeLock k
unfolding valid_record
free_says m k e none =
    let test : (eqb k.state.nest_count 0 && not k.state.irq_saved) && eqb k.word 0 ≡ true = rw none at e in
    let valid = and_left (eqb k.state.nest_count 0 && not k.state.irq_saved) _ test in
    record {
      depth = eqb-true k.state.nest_count 0 (and_left (eqb k.state.nest_count 0) _ valid);
      flag = not-true k.state.irq_saved (and_right (eqb k.state.nest_count 0) _ valid);
      word = eqb-true k.word 0 (and_right (eqb k.state.nest_count 0 && not k.state.irq_saved) _ test);
    }

held_says : (m : Machine) (k : Lock) (t : ℕ) → lock_by m.setup m.cpus k ≡ true → k.state.owner ≡ Some t
    → HeldLock m.setup (current_at m (cpu_of (tag_bits m.setup) k.word)) k t
unfolding valid_record
held_says m k t e owned =
    let depth = k.state.nest_count in
    let cpu = cpu_of (tag_bits m.setup) k.word in
    let test : (ltb 0 depth && leb depth max_nest_depth) && owner_ok m.setup m.cpus k (Some t) ≡ true = rw owned at e in
    let valid = and_left (ltb 0 depth && leb depth max_nest_depth) _ test in
    let owner = and_right (ltb 0 depth && leb depth max_nest_depth) _ test in
    let made = and_right k.state.irq_saved _ owner in
    let seat = and_right (eqb k.word (word_of cpu (thread_word m.setup t))) _ made in
    record {
      some = ltb-true 0 depth (and_left (ltb 0 depth) _ valid);
      most = leb-true depth max_nest_depth (and_right (ltb 0 depth) _ valid);
      flag = and_left k.state.irq_saved _ owner;
      word = eqb-true k.word (word_of cpu (thread_word m.setup t)) (and_left (eqb k.word (word_of cpu (thread_word m.setup t))) _ made);
      below = ltb-true cpu m.setup.n (and_left (ltb cpu m.setup.n) _ seat);
      current = current_names (current_at m cpu) t (and_right (ltb cpu m.setup.n) _ seat);
    }

lock_back : (m : Machine) (k : Lock) → GoodLock m.setup (current_at m) k → lock_by m.setup m.cpus k ≡ true
unfolding valid_record
lock_back m k good = go k.state.owner good.free good.held
  where
    go : (o : Option ℕ) → (o ≡ None → FreeLock k)
        → ((t : ℕ) → o ≡ Some t → HeldLock m.setup (current_at m (cpu_of (tag_bits m.setup) k.word)) k t)
        → valid_by o k.state.nest_count k.state.irq_saved && owner_ok m.setup m.cpus k o ≡ true
    go None f h =
        let facts = f refl in
        both (both (eq-eqb _ _ facts.depth) (ap not facts.flag)) (eq-eqb _ _ facts.word)
    go (Some t) f h =
        let facts = h t refl in
        both (both (lt-ltb _ _ facts.some) (le-leb _ _ facts.most))
        (both facts.flag (both (eq-eqb _ _ facts.word) (both (lt-ltb _ _ facts.below) (current_is _ t facts.current))))

current_says : (m : Machine) (c : ℕ) (t : ThreadId) → current_ok m c ≡ true → current_at m c ≡ Some t
    → Carried c t.0 (run_at m c) (thread_at m t.0)
current_says m c t e runs =
    let cpu = run_at m c in
    let thread = thread_at m t.0 in
    let test : current_by m.threads c cpu (Some t) ≡ true = rw runs at e in
    let up = and_right (ltb t.0 thread_count) _ test in
    let carries = and_right cpu.active _ up in
    let seat = and_right (eq_z cpu.priority thread.priority) _ carries in
    record {
      below = ltb-true t.0 thread_count (and_left (ltb t.0 thread_count) _ test);
      active = and_left cpu.active _ up;
      priority = same_signed cpu.priority thread.priority (and_left (eq_z cpu.priority thread.priority) _ carries);
      place = place_names thread.place c (and_left (is_place thread.place c) _ seat);
      allowed = and_right (is_place thread.place c) _ seat;
    }

current_back : (m : Machine) (c : ℕ) → GoodCpu m.setup (thread_at m) c (run_at m c) → current_ok m c ≡ true
current_back m c good = go (current_at m c) good.current
  where
    go : (o : Option ThreadId) → ((t : ThreadId) → o ≡ Some t → Carried c t.0 (run_at m c) (thread_at m t.0))
        → current_by m.threads c (run_at m c) o ≡ true
    go None f = refl
    go (Some t) f =
        let facts = f t refl in
        both (lt-ltb _ _ facts.below)
        (both facts.active (both (signed_same facts.priority) (both (place_is _ c facts.place) facts.allowed)))

place_says : (m : Machine) (t : ℕ) (c : CpuId) → place_ok m t ≡ true → (thread_at m t).place ≡ Some c
    → Placed m.setup (current_at m c.0) t c.0
place_says m t c e placed =
    let test : place_by m.setup.n m.cpus t (Some c) ≡ true = rw placed at e in
    record {
      below = ltb-true c.0 m.setup.n (and_left (ltb c.0 m.setup.n) _ test);
      current = current_names (current_at m c.0) t (and_right (ltb c.0 m.setup.n) _ test);
    }

place_back : (m : Machine) (t : ℕ) → GoodThread m.setup (current_at m) t (thread_at m t) → place_ok m t ≡ true
place_back m t good = go (thread_at m t).place good.place
  where
    go : (o : Option CpuId) → ((c : CpuId) → o ≡ Some c → Placed m.setup (current_at m c.0) t c.0)
        → place_by m.setup.n m.cpus t o ≡ true
    go None f = refl
    go (Some c) f = let facts = f c refl in both (lt-ltb _ _ facts.below) (current_is _ t facts.current)

idle_says : (m : Machine) (c : ℕ) → idle_ok m c ≡ true → current_at m c ≡ None → (run_at m c).priority ≡ pos 128
idle_says m c e none = same_signed (run_at m c).priority (pos 128) (rw none at e)

idle_back : (m : Machine) (c : ℕ) → GoodCpu m.setup (thread_at m) c (run_at m c) → idle_ok m c ≡ true
idle_back m c good = go (current_at m c) good.idle
  where
    go : (o : Option ThreadId) → (o ≡ None → (run_at m c).priority ≡ pos 128) → idle_by (run_at m c).priority o ≡ true
    go None f = signed_same (f refl)
    go (Some t) f = refl

mask_fact : (m : Machine) (t : ℕ) → mask_ok m t ≡ true → m.setup.pin_only ≡ true → ones (thread_at m t).mask ≡ 1
mask_fact m t e pinned = eqb-true (ones (thread_at m t).mask) 1 (rw pinned at e)

mask_back : (m : Machine) (t : ℕ) → (m.setup.pin_only ≡ true → ones (thread_at m t).mask ≡ 1) → mask_ok m t ≡ true
mask_back m t f =
    bool_ind (λ b. not b || eqb (ones (thread_at m t).mask) 1 ≡ true) m.setup.pin_only (λ pinned. eq-eqb _ _ (f pinned)) (λ _. refl)

pin_fact : (m : Machine) (t : ℕ) → pin_ok m t ≡ true → m.setup.pin_only ≡ true → (thread_at m t).mask < 2 ^ m.setup.n
pin_fact m t e pinned = ltb-true (thread_at m t).mask (2 ^ m.setup.n) (rw pinned at e)

pin_back : (m : Machine) (t : ℕ) → (m.setup.pin_only ≡ true → (thread_at m t).mask < 2 ^ m.setup.n) → pin_ok m t ≡ true
pin_back m t f =
    bool_ind (λ b. not b || ltb (thread_at m t).mask (2 ^ m.setup.n) ≡ true) m.setup.pin_only (λ pinned. lt-ltb _ _ (f pinned))
    (λ _. refl)

-- ---- the whole

pub says : (m : Machine) → well_formed m ≡ true → WellFormed m
unfolding well_formed
says m e =
    let size = and_left (size_ok m) _ e in
    let slots⁺ = and_right (size_ok m) _ e in
    let locks⁺ = and_right (all_below (slot_ok m) cpu_slots) _ slots⁺ in
    let holds⁺ = and_right (all_below (lock_ok m) lock_count) _ locks⁺ in
    let currents⁺ = and_right (all_below (hold_ok m) cpu_slots) _ holds⁺ in
    let places⁺ = and_right (all_below (current_ok m) cpu_slots) _ currents⁺ in
    let idles⁺ = and_right (all_below (place_ok m) thread_count) _ places⁺ in
    let priorities⁺ = and_right (all_below (idle_ok m) cpu_slots) _ idles⁺ in
    let slots = all_at (slot_ok m) cpu_slots (and_left (all_below (slot_ok m) cpu_slots) _ slots⁺) in
    let locks = all_at (lock_ok m) lock_count (and_left (all_below (lock_ok m) lock_count) _ locks⁺) in
    let holds = all_at (hold_ok m) cpu_slots (and_left (all_below (hold_ok m) cpu_slots) _ holds⁺) in
    let currents = all_at (current_ok m) cpu_slots (and_left (all_below (current_ok m) cpu_slots) _ currents⁺) in
    let places = all_at (place_ok m) thread_count (and_left (all_below (place_ok m) thread_count) _ places⁺) in
    let idles = all_at (idle_ok m) cpu_slots (and_left (all_below (idle_ok m) cpu_slots) _ idles⁺) in
    let priorities = all_at (priority_ok m) thread_count (and_left (all_below (priority_ok m) thread_count) _ priorities⁺) in
    let masks⁺ = and_right (all_below (priority_ok m) thread_count) _ priorities⁺ in
    let masks = all_at (mask_ok m) thread_count (and_left (all_below (mask_ok m) thread_count) _ masks⁺) in
    let pins = all_at (pin_ok m) thread_count (and_right (all_below (mask_ok m) thread_count) _ masks⁺) in
    record {
      size = size_says m.setup size;
      seats = record {
        cpus = λ c h.
            record {
              down = λ past. (slot_says m c (slots c h) past).0;
              current = λ t. current_says m c t (currents c h);
              idle = idle_says m c (idles c h);
            };
        threads = λ t h.
            let range = priority_says (thread_at m t).priority (priorities t h) in
            record {
              place = λ c. place_says m t c (places t h);
              fit = record {
                least = range.0;
                greatest = range.1;
                mask = record { one = mask_fact m t (masks t h); below = pin_fact m t (pins t h) };
              };
            };
      };
      locks = λ l h. record { free = free_says m (lock_at m l) (locks l h); held = λ t. held_says m (lock_at m l) t (locks l h) };
      counts = λ c h. record { is = eqb-true (hold_at m c) _ (holds c h); unused = λ past. (slot_says m c (slots c h) past).1 };
    }

pub says_back : (m : Machine) → WellFormed m → well_formed m ≡ true
unfolding well_formed
says_back m w =
    let cpu = w.seats.cpus in
    let thread = w.seats.threads in
    both (says_size m.setup w.size)
    (both (all_from (slot_ok m) cpu_slots (λ c h. slot_back m c (cpu c h).down (w.counts c h).unused))
    (both (all_from (lock_ok m) lock_count (λ l h. lock_back m (lock_at m l) (w.locks l h)))
    (both (all_from (hold_ok m) cpu_slots (λ c h. eq-eqb _ _ (w.counts c h).is))
    (both (all_from (current_ok m) cpu_slots (λ c h. current_back m c (cpu c h)))
    (both (all_from (place_ok m) thread_count (λ t h. place_back m t (thread t h)))
    (both (all_from (idle_ok m) cpu_slots (λ c h. idle_back m c (cpu c h)))
    (both (all_from (priority_ok m) thread_count
    (λ t h. says_priority (thread_at m t).priority (thread t h).fit.least (thread t h).fit.greatest))
    (both (all_from (mask_ok m) thread_count (λ t h. mask_back m t (thread t h).fit.mask.one))
    (all_from (pin_ok m) thread_count (λ t h. pin_back m t (thread t h).fit.mask.below))))))))))

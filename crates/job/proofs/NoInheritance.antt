-- No inheritance: a thread that has no place and a CPU that has no thread own no lock at any depth. So the thread that was just taken off a
-- CPU leaves none behind, and the thread that was just put there finds none. Assumes nothing.
use Rattle.std.specs.Prelude.{Option, None, Some}
use mathlib.Core.Path.{◌≡◌, refl, ap, sym, ◌∙◌}
use mathlib.Core.Logic.{◌≢◌}
use mathlib.Core.Bool.{Bool, true, false, ◌&&◌, ◌||◌, not, cond, false≢true}
use mathlib.Core.List.{List, [], ◌∷◌}
use Prim.Native.Nat.{ℕ, zero, suc, ◌<◌}
use native.Mathlib.Omega.{arith}
use lib.Dec.{eqb}
use borrow.Author.Tests.{ne_eqb}
use Rattle.error.specs.Codes.{is_ok}
use Rattle.error.specs.Answer.{Answer}
use Rattle.words.specs.Bit.{bit}
use Rattle.words.specs.Tag.{cpu_of, thread_of}
use Rattle.words.proofs.Tags.{word_thread, thread_nonzero, thread_alone}
use Rattle.machine.specs.State.{cpu_slots, thread_count, lock_count, tag_bits, thread_word, names, is_current, cpu_at, thread_at, lock_at}
use Rattle.machine.specs.declared.Run.{Run}
use Rattle.machine.specs.declared.Cpu.{Cpu}
use Rattle.machine.specs.declared.Thread.{Thread}
use Rattle.machine.specs.declared.CpuId.{CpuId}
use Rattle.machine.specs.declared.ThreadId.{ThreadId}
use Rattle.machine.specs.declared.Machine.{Machine}
use Rattle.order.specs.Outcome.{Outcome, refuse, accept, answer_of}
use Rattle.order.specs.Cells.{commit}
use Rattle.record.specs.Record.{request}
use Rattle.record.specs.declared.CpuOperation.{CpuOperation}
use Rattle.record.specs.declared.Operation.{Operation}
use Rattle.rules.specs.Rules as Rules
use Rattle.operations.specs.Cells.{run, thread, machine_store}
use Rattle.operations.specs.Operations.{two}
use Rattle.operations.specs.Asked.{answered, next}
use Rattle.element_tests.specs.Elements.{depth_for}
use Rattle.wellformed.specs.WellFormed.{sum_below, well_formed}
use Rattle.wellformed.proofs.Facts.{WellFormed, says}
use Rattle.kept.proofs.Apart.{nowhere_or_on}
use Rattle.operations.proofs.Lengths.{Lengths}
use Rattle.kept.proofs.Stored.{cpu_there, thread_there}
use Rattle.kept.proofs.Accepted.{Accepting, Puts, put_accepted, Takes, take_accepted}
use Rattle.kept.proofs.Kept.{idle_unlocked}
use Rattle.kept.proofs.Seats.{reseated}
use Rattle.kept.proofs.Seated.{take_kept}
use Rattle.kept.proofs.Locked.{owner_carried}
use Rattle.kept.proofs.Tagged.{cpu_fits}
use Rattle.kept.proofs.Ranges.{asks_in_range}
use Rattle.job.specs.Job.{OwnsNothing, HoldsNothing, Accepted}

-- A lock is free, or some thread's.
pub owner_cases : (A : Type 0) (o : Option ℕ) → (o ≡ None → A) → ((t : ℕ) → o ≡ Some t → A) → A
owner_cases A None none some = none refl
owner_cases A (Some t) none some = some t refl

sum_of_zeros : (f : ℕ → ℕ) (k : ℕ) → ((i : ℕ) → i < k → f i ≡ 0) → sum_below f k ≡ 0
unfolding sum_below
sum_of_zeros f zero zeros = refl
sum_of_zeros f (suc k) zeros =
    let before : sum_below f k ≡ 0 = sum_of_zeros f k (λ i h. zeros i (omega arith)) in
    let last : f k ≡ 0 = zeros k (omega arith) in
    omega arith

module _ (m : Machine) (w : WellFormed m) where
  -- The owner of a lock has a place.
  owner_placed : (l : ℕ) → l < lock_count → (t : ℕ) → (lock_at m l).state.owner ≡ Some t → (thread_at m t).place ≢ None
  owner_placed l h t e nowhere = nowhere_or_on (sym nowhere ∙ (owner_carried m w l h t e).place)

  -- The thread word in a lock's word is its owner's.
  pub owner_word : (l : ℕ) → l < lock_count → (t : ℕ) → (lock_at m l).state.owner ≡ Some t
      → thread_of (tag_bits m.setup) (lock_at m l).word ≡ thread_word m.setup t
  owner_word l h t e =
      let k = tag_bits m.setup in
      let was = (w.locks l h).held t e in
      ap (thread_of k) was.word ∙ word_thread k (cpu_of k (lock_at m l).word) t (cpu_fits m w _ was.below)

  -- A thread that has no place owns no lock.
  pub no_place : (t : ℕ) → (thread_at m t).place ≡ None → OwnsNothing m t
  no_place t nowhere =
      record {
        owner = λ l h e. owner_placed l h t e nowhere;
        word = λ l h e. owner_cases ⊥ (lock_at m l).state.owner
            (λ none. thread_nonzero (tag_bits m.setup) _ (sym e ∙ rw ((w.locks l h).free none).word (omega arith)))
            (λ u some.
            let same : u ≡ t = thread_alone (tag_bits m.setup) u t (sym (owner_word l h u some) ∙ e) in
            owner_placed l h u some (rw same nowhere));
      }

  -- A CPU that has no thread holds no lock.
  without_thread : (c : ℕ) → (cpu_at m c).run.current ≡ None → (l : ℕ) → l < lock_count → names m.setup (lock_at m l).word c ≡ false
  without_thread c idle l h =
      owner_cases (names m.setup (lock_at m l).word c ≡ false) (lock_at m l).state.owner
      (λ none. rw ((w.locks l h).free none).word)
      (λ t some.
      let other = idle_unlocked w.locks c idle l h t some in
      and_false (not (eqb (lock_at m l).word 0)) (eqb (cpu_of (tag_bits m.setup) (lock_at m l).word) c) (ne_eqb _ _ other))
    where
      and_false : (a b : Bool) → b ≡ false → a && b ≡ false
      and_false true b e = e
      and_false false b e = refl

  pub no_current : (c : ℕ) → c < cpu_slots → (cpu_at m c).run.current ≡ None → HoldsNothing m c
  no_current c h idle =
      record {
        word = without_thread c idle;
        hold = (w.counts c h).is ∙ sum_of_zeros (λ l. depth_for m.setup (lock_at m l) c) lock_count (λ l b. rw (without_thread c idle l b));
      }

-- A refusal never has the code OK.
abbrev pub Honest : {W : Type 0} → Outcome (Answer ℕ) W → Type 0
Honest (refuse a) = is_ok a.code ≡ false
Honest (accept a v) = Unit {0}

honest_past : {W : Type 0} (t : Bool) (a : Answer ℕ) (o : Outcome (Answer ℕ) W) → is_ok a.code ≡ false → Honest o → Honest (cond t (refuse a) o)
honest_past true a o e h = e
honest_past false a o e h = h

take_honest : (t h : ℕ) (r : Run) (k : Thread) → Honest (Rules.take t h r k)
unfolding Rules.take
take_honest t h r k = honest_past (not (is_current r.current t)) _ _ refl (honest_past (not (eqb h 0)) _ _ refl tt)

put_honest : (c t : ℕ) (r : Run) (k : Thread) → Honest (Rules.put c t r k)
unfolding Rules.put
put_honest c t r k =
    honest_past (not r.active) _ _ refl
    (honest_past (Rules.occupied r.current || Rules.placed k.place) _ _ refl (honest_past (not (bit c k.mask)) _ _ refl tt))

-- A put or a take that answers OK has stored a run and a thread.
seat_done : (m : Machine) (c t : ℕ) (Q : Run × Thread → Type 0) (P : Machine → Type 0) (o : Outcome (Answer ℕ) (Run × Thread)) → Accepting Q o
    → Honest o
    → is_ok (answer_of (two o)).code ≡ true → ((v : Run × Thread) → Q v → P (reseated m c t v.0 v.1))
    → P (commit machine_store (Answer ℕ) (run c ∷ thread t ∷ []) (two o) m)
seat_done m c t Q P (refuse a) q honest ok f = absurd (false≢true (sym honest ∙ ok))
seat_done m c t Q P (accept a v) q honest ok f = f v q

-- The thread and the CPU own nothing.
abbrev Nothing : ℕ → ℕ → Machine → Type 0
Nothing c t m = OwnsNothing m t × HoldsNothing m c

module _ (m : Machine) (s : Lengths m) (w : WellFormed m) (c t : ℕ) (hc : c < m.setup.n) (ht : t < thread_count) where
  inside : c < cpu_slots
  inside = let few = w.size.few in omega arith

  taken_off : (v : Run × Thread) → Takes t (cpu_at m c).hold (cpu_at m c).run (thread_at m t) v → Nothing c t (reseated m c t v.0 v.1)
  taken_off v e =
      let then : WellFormed (reseated m c t v.0 v.1) = take_kept m s w c t hc ht v e in
      let nowhere : (thread_at (reseated m c t v.0 v.1) t).place ≡ None =
      ap (λ (x : Thread). x.place) (thread_there m s t v.1 ht) ∙ ap (λ (x : Run × Thread). x.1.place) e.is in
      let idle : (cpu_at (reseated m c t v.0 v.1) c).run.current ≡ None =
      ap (λ (x : Cpu). x.run.current) (cpu_there m s c _ inside) ∙ ap (λ (x : Run × Thread). x.0.current) e.is in
      (no_place _ then t nowhere, no_current _ then c inside idle)

  put_on : (v : Run × Thread) → Puts c t (cpu_at m c).run (thread_at m t) v → Nothing c t (reseated m c t v.0 v.1)
  put_on v e =
      let owns = no_place m w t e.nowhere in
      let holds = no_current m w c inside e.idle in (
        record { owner = owns.owner; word = owns.word },
        record { word = holds.word; hold = ap (λ (x : Cpu). x.hold) (cpu_there m s c _ inside) ∙ holds.hold },
      )

-- Right after an accepted take, and right after an accepted put, no lock's record or word names that thread, nor that CPU. (Neither uses a lock:
-- its number z is any.)
module _ (m : Machine) (s : Lengths m) (good : well_formed m ≡ true) (bytes : List ℕ) (c : CpuId) (t : ThreadId) where
  pub after_take : {z : ℕ} → Accepted m bytes (request (Operation.OnCpu CpuOperation.Take) c.0 t.0 z) → Nothing c.0 t.0 (next m bytes)
  unfolding next answered
  after_take a =
      let w = says m good in
      let range = rw a.asks at (asks_in_range m w bytes) in
      let r = (cpu_at m c.0).run in
      let h = (cpu_at m c.0).hold in
      let k = thread_at m t.0 in
      rw a.asks
      (seat_done m c.0 t.0 _ (Nothing c.0 t.0) (Rules.take t.0 h r k) (take_accepted t.0 h r k) (take_honest t.0 h r k)
      (rw a.asks at a.ok) (taken_off m s w c.0 t.0 range.cpu range.thread))

  pub after_put : {z : ℕ} → Accepted m bytes (request (Operation.OnCpu CpuOperation.Put) c.0 t.0 z) → Nothing c.0 t.0 (next m bytes)
  unfolding next answered
  after_put a =
      let w = says m good in
      let range = rw a.asks at (asks_in_range m w bytes) in
      let r = (cpu_at m c.0).run in
      let k = thread_at m t.0 in
      rw a.asks
      (seat_done m c.0 t.0 _ (Nothing c.0 t.0) (Rules.put c.0 t.0 r k) (put_accepted c.0 t.0 r k) (put_honest c.0 t.0 r k)
      (rw a.asks at a.ok) (put_on m s w c.0 t.0 range.cpu range.thread))

  -- A put leaves every lock, so that a thread that owned nothing owns nothing.
  pub put_leaves : (u : ℕ) → OwnsNothing m u → {z : ℕ} → Accepted m bytes (request (Operation.OnCpu CpuOperation.Put) c.0 t.0 z)
      → OwnsNothing (next m bytes) u
  unfolding next answered
  put_leaves u owns a =
      let r = (cpu_at m c.0).run in
      let k = thread_at m t.0 in
      rw a.asks
      (seat_done m c.0 t.0 _ (λ (x : Machine). OwnsNothing x u) (Rules.put c.0 t.0 r k) (put_accepted c.0 t.0 r k)
      (put_honest c.0 t.0 r k) (rw a.asks at a.ok) (λ v _. record { owner = owns.owner; word = owns.word }))

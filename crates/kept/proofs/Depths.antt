-- What a lock adds to a CPU's hold. Assumes nothing.
use Rattle.std.specs.Prelude.{Option, None, Some}
use Rattle.machine.specs.declared.ThreadId.{ThreadId}
use mathlib.Core.Path.{◌≡◌, refl, sym, ◌∙◌}
use mathlib.Core.Bool.{◌&&◌, not, cond}
use Prim.Native.Nat.{ℕ, ◌≤◌, ◌<◌}
use native.Mathlib.Omega.{arith}
use lib.Dec.{eqb}
use borrow.Author.Tests.{eq-eqb, ne_eqb}
use Rattle.words.specs.Tag.{cpu_of}
use Rattle.words.proofs.Choice.{bool_ind}
use Rattle.words.proofs.Tags.{word_nonzero}
use Rattle.spinlock.specs.Lock.{max_nest_depth}
use Rattle.machine.specs.State.{cpu_slots, lock_count, tag_bits, names, cpu_at, lock_at}
use Rattle.machine.specs.declared.Lock.{Lock}
use Rattle.machine.specs.declared.Setup.{Setup}
use Rattle.machine.specs.declared.Machine.{Machine}
use Rattle.element_tests.specs.Elements.{depth_for}
use Rattle.wellformed.specs.WellFormed.{hold_sum}
use Rattle.wellformed.proofs.Facts.{HeldLock, WellFormed}
use Rattle.kept.proofs.Kept.{Unlocked}
use Rattle.kept.proofs.Sums.{sum_term, sum_most}

-- The CPU that its word names: its depth.
pub depth_named : (s : Setup) (k : Lock) (c : ℕ) → (k.word ≡ 0 → ⊥) → cpu_of (tag_bits s) k.word ≡ c
    → depth_for s k c ≡ k.state.nest_count
depth_named s k c some e = rw (ne_eqb k.word 0 some, eq-eqb (cpu_of (tag_bits s) k.word) c e)

-- Every other CPU, and every CPU with word 0: nothing.
pub depth_zero : (s : Setup) (k : Lock) (c : ℕ) → k.word ≡ 0 → depth_for s k c ≡ 0
depth_zero s k c e = rw (eq-eqb k.word 0 e)

pub depth_other : (s : Setup) (k : Lock) (c : ℕ) → (cpu_of (tag_bits s) k.word ≡ c → ⊥) → depth_for s k c ≡ 0
depth_other s k c other =
    bool_ind (λ b. cond (not b && eqb (cpu_of (tag_bits s) k.word) c) k.state.nest_count 0 ≡ 0) (eqb k.word 0) (λ _. refl)
    (λ _. rw (ne_eqb (cpu_of (tag_bits s) k.word) c other))

-- A held lock has a word.
pub held_word : (s : Setup) {o : Option ThreadId} (k : Lock) (t : ℕ) → HeldLock s o k t → k.word ≡ 0 → ⊥
held_word s k t h e = word_nonzero (tag_bits s) (cpu_of (tag_bits s) k.word) t (sym h.word ∙ e)

-- No lock adds more than 255.
pub depth_most : (m : Machine) → WellFormed m → (l c : ℕ) → l < lock_count → depth_for m.setup (lock_at m l) c ≤ max_nest_depth
depth_most m w l c h =
    bool_ind (λ b. cond b (lock_at m l).state.nest_count 0 ≤ max_nest_depth) (names m.setup (lock_at m l).word c)
    (λ _. go (lock_at m l).state.owner refl) (λ _. omega arith)
  where
    go : (o : Option ℕ) → (lock_at m l).state.owner ≡ o → (lock_at m l).state.nest_count ≤ max_nest_depth
    go None e = omega (arith, ((w.locks l h).free e).depth)
    go (Some t) e = ((w.locks l h).held t e).most

-- So a hold is far below 2 ^ 32.
pub hold_most : (m : Machine) → WellFormed m → (c : ℕ) → c < cpu_slots → (cpu_at m c).hold < 0xffff_ffff
hold_most m w c h =
    omega (arith, (w.counts c h).is, sum_most (λ l. depth_for m.setup (lock_at m l) c) lock_count max_nest_depth (λ l k. depth_most m w l c k))

-- A CPU with hold 0 is named by no held lock.
pub unheld : (m : Machine) → WellFormed m → (c : ℕ) → c < cpu_slots → (cpu_at m c).hold ≡ 0 → Unlocked m.setup (lock_at m) c
unheld m w c h none l k t owned named =
    let held = (w.locks l k).held t owned in
    let depth = depth_named m.setup (lock_at m l) c (held_word m.setup (lock_at m l) t held) named in
    let term : depth_for m.setup (lock_at m l) c ≤ hold_sum m c = sum_term (λ i. depth_for m.setup (lock_at m i) c) lock_count l k in
    omega (arith, (w.counts c h).is, held.some)

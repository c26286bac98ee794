-- What an accepted acquire or release does to its lock's depth and its CPU's hold, and who then acquired last. Assumes nothing.
use Rattle.std.specs.Prelude.{None}
use mathlib.Core.Path.{◌≡◌, refl, sym, ap, ◌∙◌}
use mathlib.Core.Bool.{Bool, true, cond}
use Prim.Native.Nat.{ℕ, ◌+◌, ◌-◌, ◌<◌}
use native.Mathlib.Omega.{arith}
use lib.Dec.{eqb}
use borrow.Author.Tests.{lt-ltb, eqb-true}
use Rattle.words.specs.Tag.{cpu_of}
use Rattle.words.proofs.Choice.{bool_ind}
use Rattle.words.proofs.Tags.{word_has_cpu}
use Rattle.spinlock.specs.Lock.{free_record, taken_by, deeper, shallower}
use Rattle.spinlock.specs.declared.SpinlockState.{SpinlockState}
use Rattle.spinlock.specs.declared.Operation.{Operation}
use Rattle.spinlock.proofs.Situations.{HeldBy}
use Rattle.machine.specs.State.{lock_count, tag_bits, cpu_at, lock_at}
use Rattle.machine.specs.declared.Lock.{Lock}
use Rattle.machine.specs.declared.Machine.{Machine}
use Rattle.rules.specs.Rules.{word_after, lock_op, one_more, moved}
use Rattle.wellformed.proofs.Facts.{Runs, WellFormed}
use Rattle.kept.proofs.Walk.{leaves, Ways, Told, walked}
use Rattle.kept.proofs.Tagged.{cpu_fits}
use Rattle.kept.proofs.Depths.{hold_most}
use Rattle.kept.proofs.Locked.{named, hold_least, word_held, word_made, lock_is_valid}
use Rattle.ledger.specs.Ledger.{kind_of, up, down, Last, from, last_by}

-- While a lock is held, the last accepted acquire of it came from the CPU in its word.
abbrev pub LastIn : Machine → Lock → Last → Type 0
LastIn m k by = 0 < k.state.nest_count → by ≡ from (cpu_of (tag_bits m.setup) k.word)

-- The lock's depth and the CPU's hold go one up with an acquire, and one down with a release; and who acquired last is told on.
pub record Moves (m : Machine) (op : Operation) (c l : ℕ) (v : Lock) : Type 0 where
  pub depth : v.state.nest_count + down (kind_of op) ≡ (lock_at m l).state.nest_count + up (kind_of op)
  pub hold : moved op (cpu_at m c).hold + down (kind_of op) ≡ (cpu_at m c).hold + up (kind_of op)
  pub last : (by : Last) → LastIn m (lock_at m l) by → LastIn m v (last_by (kind_of op) c by)

module _ (m : Machine) (w : WellFormed m) (c l t : ℕ) (hc : c < m.setup.n) (hl : l < lock_count) (runs : Runs m c t) where
  more : one_more (cpu_at m c).hold ≡ (cpu_at m c).hold + 1
  more = let few = w.size.few in rw (lt-ltb (cpu_at m c).hold 0xffff_ffff (hold_most m w c (omega arith)))

  -- The CPU in the word of a lock that was free.
  taken_cpu : (lock_at m l).state ≡ free_record → cpu_of (tag_bits m.setup) (word_after m.setup c t (lock_at m l) (taken_by t)) ≡ c
  taken_cpu e =
      let none : (lock_at m l).state.owner ≡ None = ap (λ (x : SpinlockState). x.owner) e in
      ap (cpu_of (tag_bits m.setup)) (word_made m w c l t hc hl runs (taken_by t) refl none)
      ∙ word_has_cpu (tag_bits m.setup) c t (cpu_fits m w c hc)

  taken : (nested : Bool) → (lock_at m l).state ≡ free_record → Moves m (Operation.Acquire nested) c l (leaves m.setup c t (lock_at m l) (taken_by t))
  taken nested e =
      let depth : (lock_at m l).state.nest_count ≡ 0 = ap (λ (x : SpinlockState). x.nest_count) e in
      record {
        depth = omega arith;
        hold = rw more (omega arith);
        last = λ by _ _. ap from (sym (taken_cpu e));
      }

  deepened : HeldBy (lock_at m l).state t
      → Moves m (Operation.Acquire true) c l (leaves m.setup c t (lock_at m l) (deeper (lock_at m l).state))
  deepened held =
      let word = word_held m w c l t hc hl runs (deeper (lock_at m l).state) t t held.owner held.owner in
      record {
        depth = omega arith;
        hold = rw more (omega arith);
        last = λ by _ _. ap from (sym (ap (cpu_of (tag_bits m.setup)) word ∙ named m w c l t hc hl runs held.owner));
      }

  -- The record one level lower, and the lock that a release leaves.
  abbrev lower : SpinlockState
  lower =
      let state = (lock_at m l).state in
      record { owner = state.owner; nest_count = state.nest_count - 1; irq_saved = state.irq_saved }

  lowered_last : HeldBy (lock_at m l).state t → (by : Last) → LastIn m (lock_at m l) by
      → LastIn m (leaves m.setup c t (lock_at m l) (shallower (lock_at m l).state)) by
  lowered_last held by last =
      bool_ind (λ b. LastIn m (leaves m.setup c t (lock_at m l) (cond b free_record lower)) by) (eqb (lock_at m l).state.nest_count 1)
      (λ _ deep. absurd (omega arith)) (λ _ _.
      let word = word_held m w c l t hc hl runs lower t t held.owner held.owner in
      last held.some ∙ ap (λ (x : ℕ). from (cpu_of (tag_bits m.setup) x)) (sym word))

  lowered : HeldBy (lock_at m l).state t → Moves m Operation.Release c l (leaves m.setup c t (lock_at m l) (shallower (lock_at m l).state))
  lowered held =
      let state = (lock_at m l).state in
      let some = held.some in
      let least = hold_least m w c l t hc hl runs held.owner in
      record {
        depth = bool_ind (λ b. (cond b free_record lower).nest_count + 1 ≡ state.nest_count + 0) (eqb state.nest_count 1)
            (λ one. let d = eqb-true state.nest_count 1 one in omega arith) (λ _. omega arith);
        hold = omega arith;
        last = lowered_last held;
      }

  ways : Ways m.setup c t (lock_at m l) (λ op. Moves m op c l)
  ways =
      record {
        taken = taken;
        deepened = λ held _. deepened held;
        released = lowered;
      }

pub lock_told : (m : Machine) → WellFormed m → (c l : ℕ) → c < m.setup.n → l < lock_count → (op : Operation)
    → Told (Moves m op c l) (lock_op m.setup op c (cpu_at m c).run (lock_at m l))
lock_told m w c l hc hl op =
    walked m.setup c (cpu_at m c).run (lock_at m l) (lock_is_valid m w l hl) (λ op. Moves m op c l) (λ t runs. ways m w c l t hc hl runs) op

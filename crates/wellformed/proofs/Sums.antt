-- The sums of depths, one for each CPU, side by side in a list: how one lock changes them. A lock adds to the sum of the CPU that its word
-- names and to no other. Assumes nothing.
use mathlib.Core.Path.{◌≡◌, refl, sym, ◌∙◌}
use mathlib.Core.Logic.{◌⊎◌, inl, inr}
use mathlib.Core.Bool.{false, ◌&&◌, not, cond}
use mathlib.Core.List.{List}
use Prim.Native.Nat.{ℕ, ◌+◌, ◌*◌, ◌≤◌, ◌<◌}
use native.Mathlib.Omega.{arith}
use lib.Dec.{eqb}
use lib.ListN.{length, get_or, set, replicate, get_or-replicate, length-replicate, length-set}
use lib.Seq.{get_or-set_same, get_or-set_other}
use borrow.Author.Tests.{eq-eqb, ne_eqb}
use Rattle.words.specs.Tag.{cpu_of}
use Rattle.words.proofs.Choice.{bool_ind, same_or}
use Rattle.machine.specs.State.{cpu_slots, tag_bits, lock_at}
use Rattle.machine.specs.declared.Lock.{Lock}
use Rattle.machine.specs.declared.Setup.{Setup}
use Rattle.machine.specs.declared.Machine.{Machine}
use Rattle.element_tests.specs.Elements.{depth_for}
use Rattle.wellformed.specs.WellFormed.{sum_below}
use Rattle.wellformed.proofs.Tests.{turn_sum}

-- Lock i counts so much for CPU c.
abbrev depths : Machine → ℕ → ℕ → ℕ
depths m c i = depth_for m.setup (lock_at m i) c

-- The sums over the locks below l, at most 2 ^ 32 - 1 for each lock.
pub record Summed (m : Machine) (sums : List ℕ) (l : ℕ) : Type 0 where
  pub long : length sums ≡ cpu_slots
  pub each : (c : ℕ) → c < cpu_slots → get_or sums c 0 ≡ sum_below (depths m c) l
  pub small : (c : ℕ) → c < cpu_slots → get_or sums c 0 ≤ 4294967295 * l

free_counts_nothing : (s : Setup) (k : Lock) (c : ℕ) → k.word ≡ 0 → depth_for s k c ≡ 0
free_counts_nothing s k c e = simp (eq-eqb _ _ e)

counts_nowhere_else : (s : Setup) (k : Lock) (c : ℕ) → (cpu_of (tag_bits s) k.word ≡ c → ⊥) → depth_for s k c ≡ 0
counts_nowhere_else s k c other =
    simp (ne_eqb _ _ other)
    (bool_ind (λ b. cond (not b && false) k.state.nest_count 0 ≡ 0) (eqb k.word 0) (λ _. refl) (λ _. refl))

pub none_yet : (m : Machine) → Summed m (replicate cpu_slots 0) 0
unfolding sum_below
none_yet m =
    record {
      long = length-replicate {A = ℕ} cpu_slots 0;
      each = λ c h. get_or-replicate {A = ℕ} cpu_slots c 0 0 h;
      small = λ c h. omega (arith, get_or-replicate {A = ℕ} cpu_slots c 0 0 h);
    }

-- A term that is 0 leaves the sum.
stays : (m : Machine) (sums : List ℕ) (l : ℕ) → Summed m sums l → (c : ℕ) → c < cpu_slots → depths m c l ≡ 0
    → get_or sums c 0 ≡ sum_below (depths m c) (l + 1)
stays m sums l s c h none = omega (arith, turn_sum (depths m c) l (s.each c h) (sym none))

pub turn_free : (m : Machine) (sums : List ℕ) (l : ℕ) → Summed m sums l → (lock_at m l).word ≡ 0 → Summed m sums (l + 1)
turn_free m sums l s free =
    record {
      long = s.long;
      each = λ c h. stays m sums l s c h (free_counts_nothing m.setup (lock_at m l) c free);
      small = λ c h. omega (arith, s.small c h);
    }

pub turn_named :
    (m : Machine) (sums : List ℕ) (l at a : ℕ)
    → Summed m sums l → cpu_of (tag_bits m.setup) (lock_at m l).word ≡ at → at < cpu_slots → a ≡ depths m at l → a ≤ 4294967295
    → Summed m (set sums at (get_or sums at 0 + a)) (l + 1)
turn_named m sums l at a s named below depth most =
    record {
      long = length-set sums at _ ∙ s.long;
      each = λ c h. each c h (same_or c at);
      small = λ c h. small c h (same_or c at);
    }
  where
    here : get_or (set sums at (get_or sums at 0 + a)) at 0 ≡ get_or sums at 0 + a
    here = get_or-set_same sums at _ 0 (omega (arith, s.long))

    each : (c : ℕ) → c < cpu_slots → (c ≡ at) ⊎ (c ≡ at → ⊥) → get_or (set sums at (get_or sums at 0 + a)) c 0 ≡ sum_below (depths m c) (l + 1)
    each c h (inl e) = rw e (here ∙ turn_sum (depths m at) l (s.each at below) depth)
    each c h (inr other) =
        let none = counts_nowhere_else m.setup (lock_at m l) c (λ e. other (sym e ∙ named)) in
        get_or-set_other sums at c _ 0 other ∙ stays m sums l s c h none

    small : (c : ℕ) → c < cpu_slots → (c ≡ at) ⊎ (c ≡ at → ⊥) → get_or (set sums at (get_or sums at 0 + a)) c 0 ≤ 4294967295 * (l + 1)
    small c h (inl e) = rw e (omega (arith, here, s.small at below))
    small c h (inr other) = omega (arith, get_or-set_other sums at c (get_or sums at 0 + a) 0 other, s.small c h)

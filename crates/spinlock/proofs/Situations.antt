-- What each situation of a valid record says of its fields, and the situation that such fields make. Assumes nothing.
use mathlib.Core.Path.{◌≡◌, refl, ap, ap₂, subst, ◌∙◌}
use mathlib.Core.Bool.{Bool, true, false, cond}
use Prim.Native.Nat.{ℕ, ◌≤◌, ◌<◌}
use native.Mathlib.Omega.{arith}
use lib.Dec.{eqb, ltb}
use borrow.Author.Tests.{ltb-true, ltb-false, leb-true, eqb-true, lt-ltb, le-ltb, eq-eqb, ne_eqb, not-true}
use Rattle.words.proofs.Choice.{bool_ind, and_left, and_right}
use Rattle.spinlock.specs.Lock.{max_nest_depth, free_record, valid_by, valid_record, situation_by, situation_at}
use Rattle.std.specs.Prelude.{Option}
use Rattle.std.specs.Prelude.{None, Some}
use Rattle.spinlock.specs.declared.SpinlockState.{SpinlockState}
use Rattle.spinlock.specs.declared.Situation.{Situation}
use Rattle.spinlock.specs.declared.Situation.TheVariants.{Free, Own, Full, Foreign}

-- The record's owner is the thread, at this depth.
pub record HeldBy (s : SpinlockState) (tid : ℕ) : Type 0 where
  pub owner : s.owner ≡ Some tid
  pub some : 0 < s.nest_count
  pub most : s.nest_count ≤ max_nest_depth

-- What a valid record is to a thread, with what that says of its fields.
pub data View (s : SpinlockState) (tid : ℕ) : Situation → Type 0 where
  free : s ≡ free_record → View s tid Free
  own : HeldBy s tid → s.nest_count < max_nest_depth → View s tid Own
  full : HeldBy s tid → s.nest_count ≡ max_nest_depth → View s tid Full
  foreign : (t : ℕ) → HeldBy s t → View s tid Foreign

pub view : (s : SpinlockState) (tid : ℕ) (elsewhere : Bool) → valid_record s ≡ true → View s tid (situation_at s tid elsewhere)
unfolding valid_record situation_at
view s tid elsewhere valid = of_owner s.owner refl valid
  where
    of_owner : (o : Option ℕ) → s.owner ≡ o → valid_by o s.nest_count s.irq_saved ≡ true
        → View s tid (situation_by o s.nest_count tid elsewhere)
    of_owner None none v =
        let depth = eqb-true s.nest_count 0 (and_left (eqb s.nest_count 0) _ v) in
        let flag = not-true s.irq_saved (and_right (eqb s.nest_count 0) _ v) in
        free
        (ap₂ (λ (o : Option ℕ) (d : ℕ). record { owner = o; nest_count = d; irq_saved = s.irq_saved }) none depth
        ∙ ap (λ (f : Bool). record { owner = None; nest_count = 0; irq_saved = f }) flag)
    of_owner (Some t) thread v =
        let some = ltb-true 0 s.nest_count (and_left (ltb 0 s.nest_count) _ v) in
        let most = leb-true s.nest_count max_nest_depth (and_right (ltb 0 s.nest_count) _ v) in
        let theirs : HeldBy s t = record { owner = thread; some = some; most = most } in
        bool_ind (λ b. View s tid (cond b (cond elsewhere Foreign (cond (ltb s.nest_count max_nest_depth) Own Full)) Foreign)) (eqb t tid)
        (λ same.
        let mine : HeldBy s tid = record { owner = thread ∙ ap Some (eqb-true t tid same); some = some; most = most } in
        bool_ind (λ b. View s tid (cond b Foreign (cond (ltb s.nest_count max_nest_depth) Own Full))) elsewhere (λ _. foreign t theirs) (λ _.
        bool_ind (λ b. View s tid (cond b Own Full)) (ltb s.nest_count max_nest_depth) (λ l. own mine (ltb-true _ _ l)) (λ g.
        let least = ltb-false s.nest_count max_nest_depth g in full mine (omega arith))))
        (λ _. foreign t theirs)

-- What single situations say.
module _ (s : SpinlockState) (tid : ℕ) (elsewhere : Bool) (valid : valid_record s ≡ true) where
  pub own_says : situation_at s tid elsewhere ≡ Own → HeldBy s tid × (s.nest_count < max_nest_depth)
  own_says e = by (subst (View s tid) e (view s tid elsewhere valid))
    where
      by : View s tid Own → HeldBy s tid × (s.nest_count < max_nest_depth)
      by (own mine below) = (mine, below)

  pub full_says : situation_at s tid elsewhere ≡ Full → HeldBy s tid
  full_says e = by (subst (View s tid) e (view s tid elsewhere valid))
    where
      by : View s tid Full → HeldBy s tid
      by (full mine deepest) = mine

-- The situation that the fields make, to a thread that is not elsewhere.
pub none_is_free : (s : SpinlockState) (tid : ℕ) → s.owner ≡ None → situation_at s tid false ≡ Free
unfolding situation_at
none_is_free s tid e = rw e

pub below_is_own : (s : SpinlockState) (tid : ℕ) → s.owner ≡ Some tid → s.nest_count < max_nest_depth → situation_at s tid false ≡ Own
unfolding situation_at
below_is_own s tid e l = simp (e, eq-eqb tid tid refl, lt-ltb s.nest_count max_nest_depth l)

pub deepest_is_full : (s : SpinlockState) (tid : ℕ) → s.owner ≡ Some tid → max_nest_depth ≤ s.nest_count → situation_at s tid false ≡ Full
unfolding situation_at
deepest_is_full s tid e l = simp (e, eq-eqb tid tid refl, le-ltb s.nest_count max_nest_depth l)

pub other_is_foreign : (s : SpinlockState) (tid t : ℕ) → s.owner ≡ Some t → (t ≡ tid → ⊥) → situation_at s tid false ≡ Foreign
unfolding situation_at
other_is_foreign s tid t e other = simp (e, ne_eqb t tid other)

-- Upstream's clauses of spinlock.rs, each as a lemma about the rules here. Where a clause lists the fields of the record after the call, the
-- lemma gives the whole answer, so that no field is left open. `inv` of upstream is the test of the record (`valid_inv`, `inv_valid`), and
-- that every call keeps it is `operate_keeps_valid` of Laws. Assumes nothing.
use mathlib.Core.Path.{◌≡◌, refl, sym, ap, subst, ◌∙◌}
use mathlib.Core.Bool.{true, false, not, false≢true}
use Prim.Native.Nat.{ℕ, ◌-◌, ◌≤◌, ◌<◌}
use native.Mathlib.Omega.{arith}
use lib.Dec.{ltb}
use borrow.Author.Tests.{eq-eqb, ne_eqb, lt-ltb, le-leb, ltb-false, eqb-true}
use Rattle.error.specs.Codes.{OK, EPERM, EBUSY}
use Rattle.error.specs.Answer.{answer}
use Rattle.spinlock.specs.Table.{code_of}
use Rattle.spinlock.specs.Lock.{
  max_nest_depth,
  free_record,
  taken_by,
  deeper,
  valid_by,
  valid_record,
  after,
  acquire,
  release,
  held,
  owns,
  read,
  acquire_check,
  is_held,
  is_free,
  nest_depth,
  owner_get,
  is_owner,
}
use Rattle.std.specs.Prelude.{Option}
use Rattle.std.specs.Prelude.{None, Some}
use Rattle.spinlock.specs.declared.SpinlockState.{SpinlockState}
use Rattle.spinlock.specs.declared.Situation.{Situation}
use Rattle.spinlock.specs.declared.Operation.TheVariants.{Acquire, Release}
use Rattle.spinlock.proofs.Situations.{HeldBy, View, free, own, full, foreign, view, none_is_free, below_is_own, deepest_is_full, other_is_foreign}
use Rattle.spinlock.proofs.Laws.{operated, release_held, plain_acquire_of_held}

-- inv: an owner exactly if the depth is above 0; the depth is bounded; the flag is set only while held.
pub record Inv (s : SpinlockState) : Type 0 where
  pub present : held s.owner ≡ ltb 0 s.nest_count
  pub bounded : s.nest_count ≤ max_nest_depth
  pub flag : held s.owner ≡ false → s.irq_saved ≡ false

held_inv : (s : SpinlockState) (t : ℕ) → HeldBy s t → Inv s
held_inv s t mine =
    record {
      present = ap held mine.owner ∙ sym (lt-ltb 0 s.nest_count mine.some);
      bounded = mine.most;
      flag = λ e. absurd (false≢true (sym e ∙ ap held mine.owner));
    }

pub valid_inv : (s : SpinlockState) → valid_record s ≡ true → Inv s
valid_inv s valid = by (view s 0 false valid)
  where
    by : {sit : Situation} → View s 0 sit → Inv s
    by (free e) = subst Inv (sym e) (record { present = refl; bounded = omega arith; flag = λ _. refl })
    by (own mine _) = held_inv s 0 mine
    by (full mine _) = held_inv s 0 mine
    by (foreign t theirs) = held_inv s t theirs

pub inv_valid : (s : SpinlockState) → Inv s → valid_record s ≡ true
unfolding valid_record
inv_valid s inv = by s.owner refl
  where
    by : (o : Option ℕ) → s.owner ≡ o → valid_by o s.nest_count s.irq_saved ≡ true
    by None e =
        let none : s.nest_count ≡ 0 = (let l = ltb-false 0 s.nest_count (sym inv.present ∙ ap held e) in omega arith) in
        rw (eq-eqb s.nest_count 0 none, inv.flag (ap held e))
    by (Some t) e = rw (sym inv.present ∙ ap held e, le-leb s.nest_count max_nest_depth inv.bounded)

module _ (s : SpinlockState) (tid : ℕ) (valid : valid_record s ≡ true) where
  -- acquire_check: free is valid; held by the same thread, and held by another, is not.
  pub acquire_check_free : s.owner ≡ None → acquire_check s tid ≡ answer OK true
  unfolding read
  acquire_check_free e = rw (valid, e)

  pub acquire_check_own : s.owner ≡ Some tid → acquire_check s tid ≡ answer OK false
  unfolding read
  acquire_check_own e = rw (valid, e)

  pub acquire_check_other : (t : ℕ) → s.owner ≡ Some t → (t ≡ tid → ⊥) → acquire_check s tid ≡ answer OK false
  unfolding read
  acquire_check_other t e other = rw (valid, e)

  -- acquire: free gives owner, depth 1 and the flag; held is EBUSY and changes nothing.
  pub acquire_free : s.owner ≡ None → acquire s tid false ≡ answer OK (taken_by tid)
  unfolding code_of after
  acquire_free e = operated (Acquire false) s tid false valid (none_is_free s tid e)

  pub acquire_held : (t : ℕ) → s.owner ≡ Some t → acquire s tid false ≡ answer EBUSY s
  acquire_held t e = plain_acquire_of_held s tid valid (ap held e)

  -- acquire_nested, which is acquire with its flag set: free; the same owner with room; the same owner at the greatest depth; another owner. The
  -- irq flag stays in the last three.
  pub nested_free : s.owner ≡ None → acquire s tid true ≡ answer OK (taken_by tid)
  unfolding code_of after
  nested_free e = operated (Acquire true) s tid false valid (none_is_free s tid e)

  pub nested_own : s.owner ≡ Some tid → s.nest_count < max_nest_depth → acquire s tid true ≡ answer OK (deeper s)
  unfolding code_of after
  nested_own e below = operated (Acquire true) s tid false valid (below_is_own s tid e below)

  pub nested_full : s.owner ≡ Some tid → max_nest_depth ≤ s.nest_count → acquire s tid true ≡ answer EBUSY s
  unfolding code_of after
  nested_full e deepest = operated (Acquire true) s tid false valid (deepest_is_full s tid e deepest)

  pub nested_other : (t : ℕ) → s.owner ≡ Some t → (t ≡ tid → ⊥) → acquire s tid true ≡ answer EBUSY s
  unfolding code_of after
  nested_other t e other = operated (Acquire true) s tid false valid (other_is_foreign s tid t e other)

  -- release: not the owner is EPERM and changes nothing; the owner at depth 1 frees it; deeper, the owner gives back one level.
  pub release_free : s.owner ≡ None → release s tid ≡ answer EPERM s
  unfolding code_of after
  release_free e = operated Release s tid false valid (none_is_free s tid e)

  pub release_other : (t : ℕ) → s.owner ≡ Some t → (t ≡ tid → ⊥) → release s tid ≡ answer EPERM s
  unfolding code_of after
  release_other t e other = operated Release s tid false valid (other_is_foreign s tid t e other)

  pub release_last : s.owner ≡ Some tid → s.nest_count ≡ 1 → release s tid ≡ answer OK free_record
  release_last e one =
      release_held s tid (record { owner = e; some = omega arith; most = (valid_inv s valid).bounded }) ∙ rw (eq-eqb s.nest_count 1 one)

  pub release_inner : s.owner ≡ Some tid → 1 < s.nest_count
      → release s tid ≡ answer OK (record { owner = s.owner; nest_count = s.nest_count - 1; irq_saved = s.irq_saved })
  release_inner e more =
      release_held s tid (record { owner = e; some = omega arith; most = (valid_inv s valid).bounded })
      ∙ rw (ne_eqb s.nest_count 1 (λ one. omega arith))

  -- is_held, is_free, nest_depth, owner_get, is_owner: each reports its field.
  pub is_held_says : is_held s ≡ answer OK (held s.owner)
  unfolding read
  is_held_says = rw valid

  pub is_free_says : is_free s ≡ answer OK (not (held s.owner))
  unfolding read
  is_free_says = rw valid

  pub nest_depth_says : nest_depth s ≡ answer OK s.nest_count
  unfolding read
  nest_depth_says = rw valid

  pub owner_get_says : owner_get s ≡ answer OK s.owner
  unfolding read
  owner_get_says = rw valid

  pub is_owner_says : is_owner s tid ≡ answer OK (owns s.owner tid)
  unfolding read
  is_owner_says = rw valid

-- The owner is the thread exactly if `owns` says so.
pub owns_own : (o : Option ℕ) (tid : ℕ) → o ≡ Some tid → owns o tid ≡ true
owns_own o tid e = rw (e, eq-eqb tid tid refl)

pub owns_only : (o : Option ℕ) (tid : ℕ) → owns o tid ≡ true → o ≡ Some tid
owns_only None tid e = absurd (false≢true e)
owns_only (Some t) tid e = ap Some (eqb-true t tid e)

-- init: the new record is valid and free, at depth 0, with the flag clear.
pub init_says : (valid_record free_record ≡ true) × (free_record.owner ≡ None) × (free_record.nest_count ≡ 0) × (free_record.irq_saved ≡ false)
unfolding valid_record
init_says = (refl, refl, refl, refl)

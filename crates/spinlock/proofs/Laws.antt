-- Laws of one lock record, real heirs of upstream's lemmas: every operation keeps validity, a refusal changes nothing, a release undoes an
-- acquire of either kind, n nested acquires take n releases, a plain acquire of a held lock is refused to every thread, a plain acquire again
-- differs from it in that code alone, and elsewhere the owner is as another thread. An operation on a valid record goes by what the record is to
-- the thread (`view`). Assumes nothing.
use mathlib.Core.Path.{◌≡◌, refl, sym, ap, ◌∙◌}
use mathlib.Core.Logic.{◌⊎◌, inl, inr}
use mathlib.Core.Bool.{Bool, true, false, cond, false≢true}
use Prim.Native.Nat.{ℕ, zero, suc, ◌+◌, ◌-◌, ◌≤◌, ◌<◌}
use native.Mathlib.Numerals.{add-one}
use native.Mathlib.Omega.{arith}
use lib.Dec.{eqb, lit<, lit≤}
use lib.IntN.{pos-ne-negsuc}
use borrow.Author.Tests.{lt-ltb, le-leb, eq-eqb, ne_eqb, eqb-false}
use Rattle.error.specs.Codes.{OK, EBUSY, EINVAL, EDEADLK}
use Rattle.error.specs.Answer.{Answer, answer}
use Rattle.error.proofs.Answers.{same_code, same_value}
use Rattle.words.proofs.Choice.{bool_ind, below_or}
use Rattle.spinlock.specs.Table.{code_of, code_again}
use Rattle.spinlock.specs.Lock.{
  max_nest_depth,
  free_record,
  taken_by,
  deeper,
  shallower,
  valid_record,
  situation_by,
  situation_at,
  after,
  operate,
  acquire,
  acquire_again,
  release,
  held,
  owns,
  read,
  is_free,
}
use Rattle.std.specs.Prelude.{Option}
use Rattle.std.specs.Prelude.{None, Some}
use Rattle.spinlock.specs.declared.SpinlockState.{SpinlockState}
use Rattle.spinlock.specs.declared.Operation.{Operation}
use Rattle.spinlock.specs.declared.Operation.TheVariants.{Acquire, Release}
use Rattle.spinlock.specs.declared.Situation.{Situation}
use Rattle.spinlock.specs.declared.Situation.TheVariants.{Free, Own, Full, Foreign}
use Rattle.spinlock.proofs.Situations.{HeldBy, View, free, own, full, foreign, view, below_is_own, deepest_is_full}

-- An operation on a valid record, by its situation.
pub operated : (op : Operation) (s : SpinlockState) (tid : ℕ) (elsewhere : Bool) {sit : Situation} → valid_record s ≡ true
    → situation_at s tid elsewhere ≡ sit → operate op s tid elsewhere ≡ answer (code_of op sit) (after op sit s tid)
unfolding operate
operated op s tid elsewhere valid e = rw (valid, e)

-- An invalid record comes back as given.
pub invalid_refused : (op : Operation) (s : SpinlockState) (tid : ℕ) (elsewhere : Bool) → valid_record s ≡ false → operate op s tid elsewhere ≡ answer EINVAL s
unfolding operate
invalid_refused op s tid elsewhere bad = rw bad

-- ---- validity is kept

pub held_valid : (s : SpinlockState) (tid : ℕ) → s.owner ≡ Some tid → 0 < s.nest_count → s.nest_count ≤ max_nest_depth → valid_record s ≡ true
unfolding valid_record
held_valid s tid owner some most = simp (owner, lt-ltb 0 s.nest_count some, le-leb s.nest_count max_nest_depth most)

shallower_valid : (s : SpinlockState) (tid : ℕ) → HeldBy s tid → valid_record (shallower s) ≡ true
unfolding valid_record
shallower_valid s tid mine =
    bool_ind
    (λ b. valid_record (cond b free_record (record { owner = s.owner; nest_count = s.nest_count - 1; irq_saved = s.irq_saved })) ≡ true)
    (eqb s.nest_count 1) (λ _. refl) (λ more.
    let some = mine.some in
    let most = mine.most in
    let two : s.nest_count ≡ 1 → ⊥ = eqb-false s.nest_count 1 more in
    held_valid (record { owner = s.owner; nest_count = s.nest_count - 1; irq_saved = s.irq_saved }) tid mine.owner (omega arith) (omega arith))

after_valid : (op : Operation) (s : SpinlockState) (tid : ℕ) {sit : Situation} → valid_record s ≡ true → View s tid sit
    → valid_record (after op sit s tid) ≡ true
unfolding after valid_record
after_valid (Acquire nested) s tid valid (free _) = refl
after_valid (Acquire false) s tid valid (own _ _) = valid
after_valid (Acquire true) s tid valid (own mine below) =
    let more : s.nest_count + 1 ≤ max_nest_depth = omega arith in
    held_valid (deeper s) tid mine.owner (omega arith) more
after_valid (Acquire nested) s tid valid (full _ _) = valid
after_valid (Acquire nested) s tid valid (foreign _ _) = valid
after_valid Release s tid valid (free _) = valid
after_valid Release s tid valid (own mine _) = shallower_valid s tid mine
after_valid Release s tid valid (full mine _) = shallower_valid s tid mine
after_valid Release s tid valid (foreign _ _) = valid

-- Upstream's lemma_invariant_inductive: an operation makes no valid record invalid, and no invalid record valid.
pub operate_keeps_valid : (op : Operation) (s : SpinlockState) (tid : ℕ) (elsewhere : Bool) → valid_record (operate op s tid elsewhere).value ≡ valid_record s
operate_keeps_valid op s tid elsewhere =
    bool_ind (λ b. valid_record s ≡ b → valid_record (operate op s tid elsewhere).value ≡ b) (valid_record s)
    (λ _ valid.
    ap (λ (a : Answer SpinlockState). valid_record a.value) (operated op s tid elsewhere valid refl)
    ∙ after_valid op s tid valid (view s tid elsewhere valid))
    (λ _ bad. ap (λ (a : Answer SpinlockState). valid_record a.value) (invalid_refused op s tid elsewhere bad) ∙ bad) refl

-- ---- a refusal changes nothing

-- What the rule refuses it leaves.
pub after_refused : (op : Operation) (sit : Situation) (s : SpinlockState) (tid : ℕ) → (code_of op sit ≡ OK → ⊥) → after op sit s tid ≡ s
unfolding code_of after
after_refused (Acquire nested) Free s tid h = absurd (h refl)
after_refused (Acquire false) Own s tid h = refl
after_refused (Acquire true) Own s tid h = absurd (h refl)
after_refused (Acquire nested) Full s tid h = refl
after_refused (Acquire nested) Foreign s tid h = refl
after_refused Release Free s tid h = refl
after_refused Release Own s tid h = absurd (h refl)
after_refused Release Full s tid h = absurd (h refl)
after_refused Release Foreign s tid h = refl

pub refused_unchanged : (op : Operation) (s : SpinlockState) (tid : ℕ) (elsewhere : Bool) → ((operate op s tid elsewhere).code ≡ OK → ⊥)
    → (operate op s tid elsewhere).value ≡ s
unfolding operate
refused_unchanged op s tid elsewhere =
    bool_ind
    (λ b.
    let a = cond b (answer (code_of op (situation_at s tid elsewhere)) (after op (situation_at s tid elsewhere) s tid)) (answer EINVAL s) in
    (a.code ≡ OK → ⊥) → a.value ≡ s)
    (valid_record s) (λ _ h. after_refused op (situation_at s tid elsewhere) s tid h) (λ _ h. refl)

-- ---- a release undoes an acquire

-- A release by the owner gives back one level.
pub release_held : (s : SpinlockState) (tid : ℕ) → HeldBy s tid → release s tid ≡ answer OK (shallower s)
unfolding code_of after
release_held s tid mine = by_depth (held_valid s tid mine.owner mine.some mine.most) (below_or s.nest_count max_nest_depth)
  where
    by_depth : valid_record s ≡ true → (s.nest_count < max_nest_depth) ⊎ (max_nest_depth ≤ s.nest_count) → release s tid ≡ answer OK (shallower s)
    by_depth valid (inl below) = operated Release s tid false valid (below_is_own s tid mine.owner below)
    by_depth valid (inr deepest) = operated Release s tid false valid (deepest_is_full s tid mine.owner deepest)

-- The record of a thread at a depth: free at depth 0, and held with the flag set above it.
abbrev pub at_depth : ℕ → ℕ → SpinlockState
at_depth zero tid = free_record
at_depth (suc n) tid = record { owner = Some tid; nest_count = suc n; irq_saved = true }

taken_held : (tid : ℕ) → HeldBy (taken_by tid) tid
taken_held tid = record { owner = refl; some = lit< tt; most = lit≤ tt }

deeper_held : (s : SpinlockState) (tid : ℕ) → HeldBy s tid → s.nest_count < max_nest_depth → HeldBy (deeper s) tid
deeper_held s tid mine below = record { owner = mine.owner; some = omega arith; most = omega arith }

shallower_deeper : (s : SpinlockState) → 0 < s.nest_count → shallower (deeper s) ≡ s
shallower_deeper s some =
    let less : s.nest_count + 1 - 1 ≡ s.nest_count = omega arith in
    rw (ne_eqb (s.nest_count + 1) 1 (λ e. omega arith), less)

undone : (nested : Bool) (s : SpinlockState) (tid : ℕ) {sit : Situation} → View s tid sit → code_of (Acquire nested) sit ≡ OK
    → release (after (Acquire nested) sit s tid) tid ≡ answer OK s
unfolding code_of after
undone nested s tid (free e) _ = release_held (taken_by tid) tid (taken_held tid) ∙ ap (answer OK) (sym e)
undone false s tid (own _ _) e = absurd (pos-ne-negsuc 0 15 (sym e))
undone true s tid (own mine below) _ =
    release_held (deeper s) tid (deeper_held s tid mine below) ∙ ap (answer OK) (shallower_deeper s mine.some)
undone nested s tid (full _ _) e = absurd (pos-ne-negsuc 0 15 (sym e))
undone nested s tid (foreign _ _) e = absurd (pos-ne-negsuc 0 15 (sym e))

-- Upstream's lemma_acquire_release_roundtrip and lemma_nested_acquire_release: whatever record an accepted acquire of either kind was asked
-- of, a release by the same thread gives that record back, flag included.
pub release_undoes : (nested : Bool) (s : SpinlockState) (tid : ℕ) (elsewhere : Bool) → (operate (Acquire nested) s tid elsewhere).code ≡ OK
    → release (operate (Acquire nested) s tid elsewhere).value tid ≡ answer OK s
release_undoes nested s tid elsewhere =
    let acquired = operate (Acquire nested) s tid elsewhere in
    bool_ind (λ b. valid_record s ≡ b → acquired.code ≡ OK → release acquired.value tid ≡ answer OK s) (valid_record s)
    (λ _ valid accepted.
    let e = operated (Acquire nested) s tid elsewhere valid refl in
    ap (λ (a : Answer SpinlockState). release a.value tid) e
    ∙ undone nested s tid (view s tid elsewhere valid) (sym (same_code e) ∙ accepted))
    (λ _ bad accepted.
    absurd (pos-ne-negsuc 0 21 (sym accepted ∙ same_code (invalid_refused (Acquire nested) s tid elsewhere bad))))
    refl

-- A plain acquire of the free record and a release are back at the free record.
pub acquire_then_release : (tid : ℕ) → (acquire free_record tid false ≡ answer OK (taken_by tid)) × (release (taken_by tid) tid ≡ answer OK free_record)
unfolding operate valid_record situation_at code_of after
acquire_then_release tid = (refl, release_held (taken_by tid) tid (taken_held tid))

-- ---- n acquires, n releases

at_depth_held : (n tid : ℕ) → suc n ≤ max_nest_depth → HeldBy (at_depth (suc n) tid) tid
at_depth_held n tid h = record { owner = refl; some = omega arith; most = h }

-- Below 255 a nested acquire goes one deeper.
pub nested_deeper : (n tid : ℕ) → n < max_nest_depth → acquire (at_depth n tid) tid true ≡ answer OK (at_depth (suc n) tid)
unfolding operate valid_record situation_at code_of after
nested_deeper zero tid h = refl
nested_deeper (suc n) tid h =
    let s = at_depth (suc n) tid in
    operated (Acquire true) s tid false (held_valid s tid refl (omega arith) (omega arith)) (below_is_own s tid refl h)
    ∙ ap (λ (d : ℕ). answer OK (record { owner = Some tid; nest_count = d; irq_saved = true })) (add-one (suc n))

-- At 255 it goes no further.
pub nested_no_further : (tid : ℕ) → acquire (at_depth max_nest_depth tid) tid true ≡ answer EBUSY (at_depth max_nest_depth tid)
unfolding operate valid_record situation_at code_of after
nested_no_further tid = rw (eq-eqb tid tid refl)

-- A release goes one back.
pub release_back : (n tid : ℕ) → n < max_nest_depth → release (at_depth (suc n) tid) tid ≡ answer OK (at_depth n tid)
release_back n tid h = release_held (at_depth (suc n) tid) tid (at_depth_held n tid h) ∙ ap (answer OK) (by n)
  where
    by : (m : ℕ) → shallower (at_depth (suc m) tid) ≡ at_depth m tid
    by zero = refl
    by (suc m) = let less : suc (suc m) - 1 ≡ suc m = omega arith in rw (ne_eqb (suc (suc m)) 1 (λ e. omega arith), less)

-- The record after n nested acquires, and after k releases.
abbrev pub nested_times : ℕ → ℕ → SpinlockState → SpinlockState
nested_times zero tid s = s
nested_times (suc n) tid s = (acquire (nested_times n tid s) tid true).value

abbrev pub released_times : ℕ → ℕ → SpinlockState → SpinlockState
released_times zero tid s = s
released_times (suc k) tid s = (release (released_times k tid s) tid).value

-- From the free record n nested acquires by one thread reach depth n, for every n up to 255.
pub nested_reaches : (n tid : ℕ) → n ≤ max_nest_depth → nested_times n tid free_record ≡ at_depth n tid
nested_reaches zero tid h = refl
nested_reaches (suc n) tid h =
    ap (λ (s : SpinlockState). (acquire s tid true).value) (nested_reaches n tid (omega arith))
    ∙ ap (λ (a : Answer SpinlockState). a.value) (nested_deeper n tid h)

-- After n acquires and k releases the thread is at depth n - k, for every k up to n.
pub released_reaches : (n k tid : ℕ) → n ≤ max_nest_depth → k ≤ n → released_times k tid (nested_times n tid free_record) ≡ at_depth (n - k) tid
released_reaches n zero tid h l = let all : n ≡ n - 0 = omega arith in nested_reaches n tid h ∙ ap (λ (m : ℕ). at_depth m tid) all
released_reaches n (suc k) tid h l =
    let one : n - k ≡ suc (n - suc k) = omega arith in
    ap (λ (s : SpinlockState). (release s tid).value) (released_reaches n k tid h (omega arith) ∙ ap (λ (m : ℕ). at_depth m tid) one)
    ∙ ap (λ (a : Answer SpinlockState). a.value) (release_back (n - suc k) tid (omega arith))

-- Upstream's lemma_n_acquires_n_releases: it takes exactly n releases to free the lock, no fewer.
pub n_releases_free : (n tid : ℕ) → n ≤ max_nest_depth → released_times n tid (nested_times n tid free_record) ≡ free_record
n_releases_free n tid h = let none : n - n ≡ 0 = omega arith in released_reaches n n tid h (omega arith) ∙ ap (λ (m : ℕ). at_depth m tid) none

pub fewer_do_not : (n k tid : ℕ) → n ≤ max_nest_depth → k < n → is_free (released_times k tid (nested_times n tid free_record)) ≡ answer OK false
unfolding read valid_record
fewer_do_not n k tid h l =
    let some : n - k ≡ suc (n - suc k) = omega arith in
    ap is_free (released_reaches n k tid h (omega arith) ∙ ap (λ (m : ℕ). at_depth m tid) some)
    ∙ rw (lt-ltb 0 (suc (n - suc k)) (omega arith), le-leb (suc (n - suc k)) max_nest_depth (omega arith))

-- ---- a held lock and a plain acquire

-- A plain acquire of a held lock is refused to every thread, its owner too, wherever it is.
pub acquire_of_held : (s : SpinlockState) (tid : ℕ) (elsewhere : Bool) → valid_record s ≡ true → held s.owner ≡ true
    → operate (Acquire false) s tid elsewhere ≡ answer EBUSY s
unfolding code_of after
acquire_of_held s tid elsewhere valid taken = operated (Acquire false) s tid elsewhere valid refl ∙ by (view s tid elsewhere valid)
  where
    by : {sit : Situation} → View s tid sit → answer (code_of (Acquire false) sit) (after (Acquire false) sit s tid) ≡ answer EBUSY s
    by (free e) = absurd (false≢true (sym (ap (λ (r : SpinlockState). held r.owner) e) ∙ taken))
    by (own _ _) = refl
    by (full _ _) = refl
    by (foreign _ _) = refl

-- Upstream's lemma_double_acquire_rejected, of the single call.
pub plain_acquire_of_held : (s : SpinlockState) (tid : ℕ) → valid_record s ≡ true → held s.owner ≡ true → acquire s tid false ≡ answer EBUSY s
plain_acquire_of_held s tid = acquire_of_held s tid false

-- ---- a plain acquire again

-- On a valid record, by its situation.
pub again_by : (s : SpinlockState) (tid : ℕ) {sit : Situation} → valid_record s ≡ true → situation_at s tid false ≡ sit
    → acquire_again s tid ≡ answer (code_again sit) (after (Acquire false) sit s tid)
unfolding acquire_again
again_by s tid valid e = rw (valid, e, operated (Acquire false) s tid false valid e)

-- An invalid record comes back as given.
pub again_invalid : (s : SpinlockState) (tid : ℕ) → valid_record s ≡ false → acquire_again s tid ≡ answer EINVAL s
unfolding acquire_again
again_invalid s tid bad = rw bad

-- It leaves the record that the plain acquire leaves, so it keeps validity, and a release undoes it.
pub again_leaves : (s : SpinlockState) (tid : ℕ) → (acquire_again s tid).value ≡ (acquire s tid false).value
unfolding acquire_again
again_leaves s tid =
    bool_ind (λ b. valid_record s ≡ b → (acquire_again s tid).value ≡ (acquire s tid false).value) (valid_record s) (λ _ valid. rw valid)
    (λ _ bad. same_value (again_invalid s tid bad) ∙ sym (same_value (invalid_refused (Acquire false) s tid false bad))) refl

-- Of a held lock the two codes differ: this one is a deadlock.
pub again_of_held : (s : SpinlockState) (tid : ℕ) → valid_record s ≡ true → held s.owner ≡ true → acquire_again s tid ≡ answer EDEADLK s
unfolding code_again after
again_of_held s tid valid taken = again_by s tid valid refl ∙ by (view s tid false valid)
  where
    by : {sit : Situation} → View s tid sit → answer (code_again sit) (after (Acquire false) sit s tid) ≡ answer EDEADLK s
    by (free e) = absurd (false≢true (sym (ap (λ (r : SpinlockState). held r.owner) e) ∙ taken))
    by (own _ _) = refl
    by (full _ _) = refl
    by (foreign _ _) = refl

-- Of every other record they are the same.
pub again_of_others : (s : SpinlockState) (tid : ℕ) → held s.owner ≡ false → acquire_again s tid ≡ acquire s tid false
unfolding code_of code_again after
again_of_others s tid nobody =
    bool_ind (λ b. valid_record s ≡ b → acquire_again s tid ≡ acquire s tid false) (valid_record s)
    (λ _ valid. again_by s tid valid refl ∙ by (view s tid false valid) ∙ sym (operated (Acquire false) s tid false valid refl))
    (λ _ bad. again_invalid s tid bad ∙ sym (invalid_refused (Acquire false) s tid false bad)) refl
  where
    held_by : (t : ℕ) → HeldBy s t → ⊥
    held_by t theirs = false≢true (sym nobody ∙ ap held theirs.owner)

    by : {sit : Situation} → View s tid sit
        → answer (code_again sit) (after (Acquire false) sit s tid) ≡ answer (code_of (Acquire false) sit) (after (Acquire false) sit s tid)
    by (free _) = refl
    by (own mine _) = absurd (held_by tid mine)
    by (full mine _) = absurd (held_by tid mine)
    by (foreign t theirs) = absurd (held_by t theirs)

-- A refusal changes nothing.
pub again_refused_unchanged : (s : SpinlockState) (tid : ℕ) → ((acquire_again s tid).code ≡ OK → ⊥) → (acquire_again s tid).value ≡ s
again_refused_unchanged s tid refusal =
    bool_ind (λ b. held s.owner ≡ b → (acquire_again s tid).value ≡ s) (held s.owner) (λ _ taken. again_leaves s tid ∙ kept taken)
    (λ _ nobody.
    let same = again_of_others s tid nobody in
    again_leaves s tid ∙ refused_unchanged (Acquire false) s tid false (λ e. refusal (same_code same ∙ e))) refl
  where
    kept : held s.owner ≡ true → (acquire s tid false).value ≡ s
    kept taken =
        bool_ind (λ b. valid_record s ≡ b → (acquire s tid false).value ≡ s) (valid_record s)
        (λ _ valid. same_value (plain_acquire_of_held s tid valid taken))
        (λ _ bad. same_value (invalid_refused (Acquire false) s tid false bad)) refl

-- ---- a thread elsewhere

-- Elsewhere the owner is refused as another thread is.
pub own_elsewhere : (op : Operation) (s : SpinlockState) (tid : ℕ) → valid_record s ≡ true → s.owner ≡ Some tid
    → operate op s tid true ≡ answer (code_of op Foreign) s
unfolding situation_at after
own_elsewhere op s tid valid mine = operated op s tid true valid (simp (mine, eq-eqb tid tid refl)) ∙ ap (answer (code_of op Foreign)) (stays op)
  where
    stays : (o : Operation) → after o Foreign s tid ≡ s
    stays (Acquire nested) = refl
    stays Release = refl

-- To a thread that is not the owner it is no matter.
pub others_elsewhere : (op : Operation) (s : SpinlockState) (tid : ℕ) → owns s.owner tid ≡ false → operate op s tid true ≡ operate op s tid false
unfolding operate situation_at
others_elsewhere op s tid other =
    ap (λ (sit : Situation). cond (valid_record s) (answer (code_of op sit) (after op sit s tid)) (answer EINVAL s)) (by s.owner other)
  where
    by : (o : Option ℕ) → owns o tid ≡ false → situation_by o s.nest_count tid true ≡ situation_by o s.nest_count tid false
    by None e = refl
    by (Some t) e = rw e

-- 01, "Lock record", and 02, request 6: owner (none or a thread), depth, irq flag.
use Rattle.std.specs.Prelude.{ℕ, ◌+◌, ◌-◌, Bool, true, false, ◌&&◌, not, cond, eqb, ltb, leb}
use Rattle.error.specs.Codes.{OK, EINVAL}
use Rattle.error.specs.Answer.{Answer, answer}
use Rattle.std.specs.Prelude.{Option}
use Rattle.std.specs.Prelude.{None, Some}
use Rattle.spinlock.specs.declared.SpinlockState.{SpinlockState}
use Rattle.spinlock.specs.declared.Operation.{Operation}
use Rattle.spinlock.specs.declared.Operation.TheVariants.{Acquire, Release}
use Rattle.spinlock.specs.declared.Situation.{Situation}
use Rattle.spinlock.specs.declared.Situation.TheVariants.{Free, Own, Full, Foreign}
use Rattle.spinlock.specs.Table.{code_of, code_again}

-- The greatest depth.
abbrev pub max_nest_depth : ℕ
max_nest_depth = 255

-- The new record is free.
abbrev pub free_record : SpinlockState
free_record = record { owner = None; nest_count = 0; irq_saved = false }

-- Taking a free lock gives owner, depth 1, flag set.
abbrev pub taken_by : ℕ → SpinlockState
taken_by tid = record { owner = Some tid; nest_count = 1; irq_saved = true }

-- Gains one; the owner and the flag stay.
abbrev pub deeper : SpinlockState → SpinlockState
deeper s = record { owner = s.owner; nest_count = s.nest_count + 1; irq_saved = s.irq_saved }

-- At depth 1 all three fields are freed; deeper loses one, and the owner and the flag stay.
abbrev pub shallower : SpinlockState → SpinlockState
shallower s =
    cond (eqb s.nest_count 1) free_record
    (record { owner = s.owner; nest_count = s.nest_count - 1; irq_saved = s.irq_saved })

-- Owner present exactly if depth > 0; depth at most 255; flag clear when free.
abbrev pub valid_by : Option ℕ → ℕ → Bool → Bool
valid_by None depth flag = eqb depth 0 && not flag
valid_by (Some t) depth flag = ltb 0 depth && leb depth max_nest_depth

-- The record is valid.
unfoldable pub valid_record : SpinlockState → Bool
valid_record s = valid_by s.owner s.nest_count s.irq_saved

-- Free, the owner's below 255, the owner's at 255, or another's. The right thread elsewhere, on another CPU than the lock was taken on, is as
-- another thread.
abbrev pub situation_by : Option ℕ → ℕ → ℕ → Bool → Situation
situation_by None depth tid elsewhere = Free
situation_by (Some t) depth tid elsewhere = cond (eqb t tid) (cond elsewhere Foreign (cond (ltb depth max_nest_depth) Own Full)) Foreign

-- What a record is to a thread.
unfoldable pub situation_at : SpinlockState → ℕ → Bool → Situation
situation_at s tid elsewhere = situation_by s.owner s.nest_count tid elsewhere

-- The record after an operation in a situation. What is refused stays as it was.
unfoldable pub after : Operation → Situation → SpinlockState → ℕ → SpinlockState
after (Acquire nested) Free s tid = taken_by tid
after (Acquire nested) Own s tid = cond nested (deeper s) s
after (Acquire nested) Full s tid = s
after (Acquire nested) Foreign s tid = s
after Release Free s tid = s
after Release Own s tid = shallower s
after Release Full s tid = shallower s
after Release Foreign s tid = s

-- A call that changes a record: an invalid one is EINVAL, handed back as given.
unfoldable pub operate : Operation → SpinlockState → ℕ → Bool → Answer SpinlockState
operate op s tid elsewhere =
    cond (valid_record s) (answer (code_of op (situation_at s tid elsewhere)) (after op (situation_at s tid elsewhere) s tid)) (answer EINVAL s)

-- acquire: free is taken; held is EBUSY, for the owner also. Nested, the owner below 255 gains one instead. Nobody is elsewhere.
abbrev pub acquire : SpinlockState → ℕ → Bool → Answer SpinlockState
acquire s tid nested = operate (Acquire nested) s tid false

-- acquire again, a plain one by the CPU that the lock's word names: as acquire, but held is EDEADLK.
unfoldable pub acquire_again : SpinlockState → ℕ → Answer SpinlockState
acquire_again s tid =
    cond (valid_record s) (answer (code_again (situation_at s tid false)) (acquire s tid false).value) (answer EINVAL s)

-- release: the owner loses one level, and at depth 1 frees the lock; else EPERM, for a free lock too.
abbrev pub release : SpinlockState → ℕ → Answer SpinlockState
release s tid = operate Release s tid false

-- A call that reads a record: an invalid one is EINVAL, with 0, none or no.
unfoldable pub read : {A : Type 0} → SpinlockState → A → A → Answer A
read s found nothing = cond (valid_record s) (answer OK found) (answer EINVAL nothing)

-- The record has an owner.
abbrev pub held : Option ℕ → Bool
held None = false
held (Some t) = true

-- The thread is the owner.
abbrev pub owns : Option ℕ → ℕ → Bool
owns None tid = false
owns (Some t) tid = eqb t tid

-- is_free: yes exactly if free.
abbrev pub is_free : SpinlockState → Answer Bool
is_free s = read s (not (held s.owner)) false

-- acquire_check: the same, whoever asks.
abbrev pub acquire_check : SpinlockState → ℕ → Answer Bool
acquire_check s tid = is_free s

-- is_held: yes exactly if not free.
abbrev pub is_held : SpinlockState → Answer Bool
is_held s = read s (held s.owner) false

-- nest_depth reports the depth.
abbrev pub nest_depth : SpinlockState → Answer ℕ
nest_depth s = read s s.nest_count 0

-- owner_get reports the owner.
abbrev pub owner_get : SpinlockState → Answer (Option ℕ)
owner_get s = read s s.owner None

-- is_owner: yes exactly if the owner is the thread.
abbrev pub is_owner : SpinlockState → ℕ → Answer Bool
is_owner s tid = read s (owns s.owner tid) false

-- release_check: yes exactly if the given thread owns the record.
abbrev pub release_check : SpinlockState → ℕ → Answer Bool
release_check s tid = is_owner s tid

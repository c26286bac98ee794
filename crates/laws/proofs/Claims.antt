-- Claimed answers. A claim is right exactly if the runner, from the fresh machine of the setup byte, writes these very bytes for the log; so does
-- the program for an input that it does not refuse. Else no record below the one that is named has a wrong answer, and that one has. What the program
-- refuses is told first, whatever the claim is, and then a claim of another length. A log stands in one order, and its claim in the same: of two
-- records that may change places, one accepted and one refused, the answers of the one order are no right claim of the other (an exhibit).
--
-- `judged`, `judged_input` and `Named` stand in claims/specs/Claims.antt, `code_from_setup` and `room_from_setup` in setup_run/specs/Run.antt,
-- `answers_of` in runner/specs/Run.antt, the program's rule in program/specs/Program.antt, `Rearranged` in rearranged/specs/Rearranged.antt, and the
-- two logs in rearranged/specs/Exhibit.antt. The proofs are in claims/proofs/Laws.antt. Assumes nothing.
use mathlib.Core.Path.{◌≡◌, refl}
use mathlib.Core.Bool.{Bool, true, false}
use mathlib.Core.List.{List}
use Prim.Native.Nat.{ℕ, ◌*◌, ◌/◌, ◌≤◌}
use lib.ListN.{length, take}
use Rattle.error.specs.Codes.{EINVAL, is_ok}
use Rattle.words.specs.Below.{all_below}
use Rattle.words.specs.Bit.{bit}
use Rattle.words.specs.Signed.{from_signed}
use Rattle.spinlock_validate.specs.Owner.{spin_lock_compute_owner, spin_lock_valid, spin_unlock_valid}
use Rattle.spinlock.specs.Table.{code_of}
use Rattle.spinlock.specs.Lock.{operate, after, valid_record, situation_at}
use Rattle.order.specs.Every.{every, collect, spread}
use Rattle.machine.specs.State.{is_priority, thread_mask, fresh_machine, fresh, setup}
use Rattle.record.specs.Record.{fields_of, row_of, fits, request_of}
use Rattle.answers.specs.Answer.{answer_bytes, written}
use Rattle.rules.specs.Rules.{up, down, put, lock_op, unwind}
use Rattle.rules.specs.Rules as rules
use Rattle.wellformed.specs.WellFormed.{sum_below, well_formed}
use Rattle.operations.specs.Asked.{answered, next}
use Rattle.operations.specs.Log.{state_at}
use Rattle.log_tests.specs.RunCode.{run_code}
use Rattle.runner.specs.Run.{answers_of, ran}
use Rattle.setup_run.specs.Run.{code_from_setup, room_from_setup}
use Rattle.program.specs.Program.{input_code, respond_size, respond_room}
use Rattle.rearranged.specs.Rearranged.{Rearranged}
use Rattle.rearranged.specs.Exhibit.{two_cpus, up_first, down_first, swapped}
use Rattle.rearranged.proofs.Exhibit as Exhibit
use Rattle.claims.specs.Claims.{right, differs, refused, same, lowest, claim_code, judged, judged_input, Named}
use Rattle.claims.proofs.Laws as Laws
use Rattle.laws.specs.Marked.{opened, flagged, zeros, busy}
use Rattle.laws.specs.Accident.{comes, stopped, following, accident, accident_answers, gave_back_one}

module _ (byte : ℕ) (log : List ℕ) where
  -- Whatever the runner writes is accepted.
  pub written_is_right : (room : List ℕ) → is_ok (code_from_setup byte log (length room)) ≡ true
      → judged byte log (take (length log / 12 * 8) (room_from_setup byte log room)) ≡ right
  written_is_right = Laws.written_is_right byte log

  -- Nothing else is.
  pub right_is_written : (room claim : List ℕ) → judged byte log claim ≡ right → length log / 12 * 8 ≤ length room
      → (is_ok (code_from_setup byte log (length room)) ≡ true) × (claim ≡ take (length log / 12 * 8) (room_from_setup byte log room))
  right_is_written = Laws.right_is_written byte log

  module _ (claim : List ℕ) where
    -- The record that is named is the lowest whose answer differs, and that one is named.
    pub names_the_lowest : (k : ℕ) → judged byte log claim ≡ differs k → Named (setup byte).value log claim k
    names_the_lowest = Laws.named_is byte log claim

    pub lowest_is_named : (k : ℕ) → is_ok (claim_code byte log (length claim)) ≡ true → Named (setup byte).value log claim k
        → judged byte log claim ≡ differs k
    lowest_is_named = Laws.is_named byte log claim

    -- What the program refuses comes first, and then the claim's length.
    pub program_first : is_ok (code_from_setup byte log (length log / 12 * 8)) ≡ false
        → judged byte log claim ≡ refused (code_from_setup byte log (length log / 12 * 8))
    program_first = Laws.program_first byte log claim

    pub then_length : is_ok (code_from_setup byte log (length log / 12 * 8)) ≡ true → (length claim ≡ length log / 12 * 8 → ⊥)
        → judged byte log claim ≡ refused EINVAL
    then_length = Laws.then_length byte log claim

-- What the program writes for an input is accepted.
pub replayed_is_right : (input room : List ℕ) → is_ok (input_code input (length room)) ≡ true
    → judged_input input (take (respond_size input (length room)).value (respond_room input room)) ≡ right
replayed_is_right = Laws.replayed_is_right

-- Two records that may change places, up of CPU 0 and down of CPU 1: each keeps its answer, and the answers of the one order are no right claim of
-- the other, since one is OK and the other is not.
pub either_order : (pinOnly : Bool) → Rearranged (two_cpus pinOnly) 2 up_first down_first swapped
either_order = Exhibit.either_order

pub own_order : judged 0x20 down_first (answers_of (setup 0x20).value down_first 2) ≡ right
unfolding bit from_signed valid_record is_priority thread_mask fresh_machine fresh setup fields_of row_of fits request_of answer_bytes up down answered
    next state_at run_code answers_of ran code_from_setup all_below sum_below well_formed same lowest claim_code judged
own_order = refl

pub other_order : judged 0x20 down_first (answers_of (setup 0x20).value up_first 2) ≡ differs 0
unfolding bit from_signed valid_record is_priority thread_mask fresh_machine fresh setup fields_of row_of fits request_of answer_bytes up down answered
    next state_at run_code answers_of ran code_from_setup all_below sum_below well_formed same lowest claim_code judged
other_order = refl

-- The accident: a controller whose unwinding gave back one level of three. The record of the unwind is named.
pub accident_named : judged 0x20 accident gave_back_one ≡ differs 6
unfolding opened flagged zeros busy comes stopped following accident accident_answers gave_back_one bit spin_lock_compute_owner spin_lock_valid
    spin_unlock_valid code_of after operate valid_record situation_at thread_mask fresh_machine fresh setup fields_of row_of fits request_of answer_bytes
    written from_signed up put rules.take lock_op unwind answered next state_at answers_of run_code ran code_from_setup all_below sum_below is_priority
    well_formed every collect spread same lowest claim_code judged
accident_named = refl

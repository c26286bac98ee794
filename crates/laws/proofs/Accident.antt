-- The accident, computed: what the program writes, and what the next job then holds. Assumes nothing.
use Rattle.std.specs.Prelude.{Some}
use mathlib.Core.Path.{◌≡◌, refl}
use mathlib.Core.Bool.{true}
use mathlib.Core.List.{◌∷◌}
use lib.ListN.{replicate}
use Rattle.words.specs.Below.{all_below}
use Rattle.words.specs.Bit.{bit}
use Rattle.words.specs.Signed.{from_signed}
use Rattle.spinlock_validate.specs.Owner.{spin_lock_compute_owner, spin_lock_valid, spin_unlock_valid}
use Rattle.spinlock.specs.Table.{code_of}
use Rattle.spinlock.specs.Lock.{operate, after, valid_record, situation_at}
use Rattle.order.specs.Every.{every, collect, spread}
use Rattle.machine.specs.State.{is_priority, thread_mask, fresh_machine, fresh, setup, cpu_at, lock_at}
use Rattle.record.specs.Record.{fields_of, row_of, fits, request_of}
use Rattle.answers.specs.Answer.{answer_bytes, written}
use Rattle.rules.specs.Rules.{up, put, take, lock_op, unwind}
use Rattle.wellformed.specs.WellFormed.{sum_below, well_formed}
use Rattle.operations.specs.Asked.{answered, next}
use Rattle.operations.specs.Log.{state_at}
use Rattle.log_tests.specs.RunCode.{run_code}
use Rattle.runner.specs.Run.{room_at, ran, ran_room}
use Rattle.setup_run.specs.Run.{code_from_setup, room_from_setup}
use Rattle.program.specs.Program.{input_code, respond_room}
use Rattle.laws.specs.Marked.{opened, flagged, zeros, busy}
use Rattle.laws.specs.Accident.{comes, stopped, following, accident, accident_answers, accident_end}

-- What the program writes for the setup byte and the log.
pub answers : respond_room (0x20 ∷ accident) (replicate 80 0) ≡ accident_answers
unfolding opened flagged zeros busy comes stopped following accident accident_answers bit spin_lock_compute_owner spin_lock_valid spin_unlock_valid code_of
    after operate valid_record situation_at thread_mask fresh_machine fresh setup fields_of row_of fits request_of answer_bytes written from_signed up put
    take lock_op unwind answered next state_at room_at run_code ran ran_room code_from_setup room_from_setup input_code respond_room all_below sum_below
    is_priority well_formed every collect spread
answers = refl

-- Lock 7 is the next job's, at depth 1, and CPU 0 holds one level.
pub ends : (lock_at accident_end 7 ≡ record { state = record { owner = Some 4; nest_count = 1; irq_saved = true }; word = 20 })
    × ((cpu_at accident_end 0).hold ≡ 1)
unfolding opened flagged comes stopped following accident accident_end bit spin_lock_compute_owner spin_lock_valid spin_unlock_valid code_of after operate
    valid_record situation_at thread_mask fresh_machine fresh setup fields_of row_of fits request_of up put take lock_op unwind answered next state_at
    is_priority every collect spread
ends = (refl, refl)

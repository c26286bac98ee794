-- The marked examples of 01 hold, and ours of the wide machine, each by computing both sides: `eq` is `refl`, once for each row. Assumes nothing.
use mathlib.Core.Path.{refl as eq}
use lib.Count.{ones, ones_in}
use Rattle.words.specs.Below.{all_below}
use Rattle.words.specs.Bit.{bit, bits_of}
use Rattle.spinlock_validate.specs.Owner.{spin_lock_compute_owner, spin_lock_decode_owner, spin_lock_valid, spin_unlock_valid}
use Rattle.spinlock.specs.Table.{code_of, code_again}
use Rattle.spinlock.specs.Lock.{operate, acquire_again, after, valid_record, situation_at}
use Rattle.cpu_mask.specs.Mask.{cpu_mask_mod, cpu_pin_compute}
use Rattle.ipi.specs.Ipi.{compute_ipi_mask, gets}
use Rattle.words.specs.Signed.{from_signed}
use Rattle.machine.specs.State.{is_priority, thread_mask, fresh_machine, not_made, fresh, setup}
use Rattle.record.specs.Record.{fields_of, row_of, fits, request_of}
use Rattle.answers.specs.Answer.{answer_bytes, written}
use Rattle.rules.specs.Rules.{up, put, take, lock_op, owner}
use Rattle.wellformed.specs.WellFormed.{sum_below, well_formed}
use Rattle.operations.specs.Asked.{answered, next}
use Rattle.operations.specs.Log.{state_at}
use Rattle.log_tests.specs.RunCode.{run_code}
use Rattle.runner.specs.Run.{room_at, ran, ran_room}
use Rattle.setup_run.specs.Run.{code_from_setup, room_from_setup}
use Rattle.program.specs.Program.{input_code, respond_room}
use Rattle.laws.specs.Marked.{
  Holds,
  table,
  all,
  at,
  cpu,
  cpus,
  opened,
  flagged,
  worked_log,
  zeros,
  busy,
  worked_answers,
  worked_end,
  wide_log,
  wide_answers,
  wide_end,
  twice_log,
  refused_with,
  twice_answers,
  wide_of,
  wide_table,
}

pub marked : Holds table
unfolding Holds table at cpu cpus all ones ones_in bit bits_of spin_lock_compute_owner spin_lock_decode_owner spin_lock_valid code_of after operate valid_record
    situation_at cpu_mask_mod cpu_pin_compute compute_ipi_mask gets opened flagged worked_log zeros busy worked_answers worked_end thread_mask fresh_machine
    fresh setup fields_of row_of fits request_of answer_bytes written from_signed up put take lock_op owner answered next state_at room_at run_code ran
    ran_room code_from_setup room_from_setup input_code respond_room all_below sum_below is_priority well_formed spin_unlock_valid
marked = (eq, (eq, (eq, (eq, (eq, (eq, (eq, (eq, (eq, (eq, (eq, (eq, (eq, (eq, (eq, (eq, (eq, (eq, (eq, (eq, tt))))))))))))))))))))

pub wide_marked : Holds wide_table
unfolding Holds wide_table bit spin_lock_compute_owner spin_lock_decode_owner spin_lock_valid code_of code_again after operate acquire_again valid_record
    situation_at opened flagged zeros busy wide_log wide_answers wide_end twice_log refused_with twice_answers wide_of thread_mask fresh_machine not_made fresh
    setup fields_of row_of fits request_of answer_bytes written from_signed up put take lock_op owner answered next state_at room_at run_code ran ran_room
    code_from_setup room_from_setup input_code respond_room all_below sum_below is_priority well_formed spin_unlock_valid
wide_marked = (eq, (eq, (eq, (eq, (eq, (eq, (eq, (eq, (eq, (eq, (eq, (eq, (eq, (eq, (eq, (eq, (eq, tt)))))))))))))))))

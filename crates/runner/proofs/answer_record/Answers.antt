-- Each arm's answer and machine are the record's, by the law of its family (Turned.antt): the record's numbers are in range, so that no rule
-- refuses them. Assumes nothing.
use mathlib.Core.Path.{refl, ◌∙◌}
use borrow.Author.Rules.{rules}
use Rattle.error.proofs.Answers.{refusal_refuses}
use Rattle.operations.proofs.Lengths.{Lengths}
use Rattle.runner.proofs.Turned.{malformed_ran, cpu_ran, lock_ran, thread_ran, ipi_ran, owner_ran, unwind_ran, unwind_refused_ran}
use Rattle.runner.proofs.answer_record.Goals as goal

pub returns-in-Malformed-clause-answer : goal.returns-in-Malformed-clause-answer
returns-in-Malformed-clause-answer c =
    let r = c.request_of-request in
    let turn = malformed_ran c.args.m.now c.requires.same_setup c.requires.good_setup c.args.bytes.now r.result r.ensures.request c.in-Malformed.is in
    c.from.ensures ∙ turn.says

pub returns-in-Malformed-clause-machine : goal.returns-in-Malformed-clause-machine
returns-in-Malformed-clause-machine c =
    let r = c.request_of-request in
    let turn = malformed_ran c.args.m.now c.requires.same_setup c.requires.good_setup c.args.bytes.now r.result r.ensures.request c.in-Malformed.is in
    turn.leaves

pub returns-in-OnCpu-clause-answer : goal.returns-in-OnCpu-clause-answer
returns-in-OnCpu-clause-answer c =
    let r = c.request_of-request in
    let turn = cpu_ran c.args.m.now c.requires.same_setup c.requires.good_setup c.args.bytes.now r.result r.ensures.request c.in-OnCpu.is _ c.on_cpu-code.ensures in
    turn.says

pub returns-in-OnCpu-clause-machine : goal.returns-in-OnCpu-clause-machine
returns-in-OnCpu-clause-machine c =
    let r = c.request_of-request in
    let turn = cpu_ran c.args.m.now c.requires.same_setup c.requires.good_setup c.args.bytes.now r.result r.ensures.request c.in-OnCpu.is _ c.on_cpu-code.ensures in
    turn.leaves

pub returns-in-OnLock-clause-answer : goal.returns-in-OnLock-clause-answer
returns-in-OnLock-clause-answer c =
    let r = c.request_of-request in
    let turn = lock_ran c.args.m.now c.requires.same_setup c.requires.good_setup c.args.bytes.now r.result r.ensures.request c.in-OnLock.is _ c.on_lock.ensures in
    turn.says

pub returns-in-OnLock-clause-machine : goal.returns-in-OnLock-clause-machine
returns-in-OnLock-clause-machine c =
    let r = c.request_of-request in
    let turn = lock_ran c.args.m.now c.requires.same_setup c.requires.good_setup c.args.bytes.now r.result r.ensures.request c.in-OnLock.is _ c.on_lock.ensures in
    turn.leaves

pub returns-in-OnThread-clause-answer : goal.returns-in-OnThread-clause-answer
returns-in-OnThread-clause-answer c =
    let r = c.request_of-request in
    let turn = thread_ran c.args.m.now c.requires.same_setup c.requires.good_setup c.args.bytes.now r.result r.ensures.request c.in-OnThread.is _ c.on_thread.ensures in
    turn.says

pub returns-in-OnThread-clause-machine : goal.returns-in-OnThread-clause-machine
returns-in-OnThread-clause-machine c =
    let r = c.request_of-request in
    let turn = thread_ran c.args.m.now c.requires.same_setup c.requires.good_setup c.args.bytes.now r.result r.ensures.request c.in-OnThread.is _ c.on_thread.ensures in
    turn.leaves

pub returns-in-Ipi-clause-answer : goal.returns-in-Ipi-clause-answer
returns-in-Ipi-clause-answer c =
    let r = c.request_of-request in
    let turn = ipi_ran c.args.m.now c.requires.same_setup c.requires.good_setup c.args.bytes.now r.result r.ensures.request c.in-Ipi.is _ c.ipi-mask.ensures in
    c.from-in-Ipi.ensures ∙ turn.says

pub returns-in-Ipi-clause-machine : goal.returns-in-Ipi-clause-machine
returns-in-Ipi-clause-machine c =
    let r = c.request_of-request in
    let turn = ipi_ran c.args.m.now c.requires.same_setup c.requires.good_setup c.args.bytes.now r.result r.ensures.request c.in-Ipi.is _ c.ipi-mask.ensures in
    turn.leaves

pub returns-in-Owner-clause-answer : goal.returns-in-Owner-clause-answer
returns-in-Owner-clause-answer c =
    let r = c.request_of-request in
    let turn = owner_ran c.args.m.now c.requires.same_setup c.requires.good_setup c.args.bytes.now r.result r.ensures.request c.in-Owner.is _ c.owner.ensures in
    c.from-in-Owner.ensures ∙ turn.says

pub returns-in-Owner-clause-machine : goal.returns-in-Owner-clause-machine
returns-in-Owner-clause-machine c =
    let r = c.request_of-request in
    let turn = owner_ran c.args.m.now c.requires.same_setup c.requires.good_setup c.args.bytes.now r.result r.ensures.request c.in-Owner.is _ c.owner.ensures in
    turn.leaves

pub returns-in-Ok-clause-answer : goal.returns-in-Ok-clause-answer
returns-in-Ok-clause-answer c =
    let r = c.request_of-request in
    let made : Lengths c.args.m.now = record { cpus = search rules; threads = search rules; locks = search rules } in
    let turn = unwind_ran c.args.m.now c.requires.same_setup c.requires.good_setup c.args.bytes.now r.result r.ensures.request c.in-Unwind.is made _ c.in-Ok.ensures refl _ c.give_back.ensures in
    c.from-in-Ok.ensures ∙ turn.says

pub returns-in-Ok-clause-machine : goal.returns-in-Ok-clause-machine
returns-in-Ok-clause-machine c =
    let r = c.request_of-request in
    let made : Lengths c.args.m.now = record { cpus = search rules; threads = search rules; locks = search rules } in
    let turn = unwind_ran c.args.m.now c.requires.same_setup c.requires.good_setup c.args.bytes.now r.result r.ensures.request c.in-Unwind.is made _ c.in-Ok.ensures refl _ c.give_back.ensures in
    turn.leaves

pub returns-in-Err-clause-answer : goal.returns-in-Err-clause-answer
returns-in-Err-clause-answer c =
    let r = c.request_of-request in
    let made : Lengths c.args.m.now = record { cpus = search rules; threads = search rules; locks = search rules } in
    let turn = unwind_refused_ran c.args.m.now c.requires.same_setup c.requires.good_setup c.args.bytes.now r.result r.ensures.request c.in-Unwind.is made _ c.in-Err.ensures (refusal_refuses _) in
    c.from-in-Err.ensures ∙ turn.says

pub returns-in-Err-clause-machine : goal.returns-in-Err-clause-machine
returns-in-Err-clause-machine c =
    let r = c.request_of-request in
    let made : Lengths c.args.m.now = record { cpus = search rules; threads = search rules; locks = search rules } in
    let turn = unwind_refused_ran c.args.m.now c.requires.same_setup c.requires.good_setup c.args.bytes.now r.result r.ensures.request c.in-Unwind.is made _ c.in-Err.ensures (refusal_refuses _) in
    turn.leaves

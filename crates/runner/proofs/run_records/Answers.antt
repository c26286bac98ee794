-- A turn is the law of one record, and carries the state and the answers one further. Assumes nothing.
use mathlib.Core.Path.{ap, ◌∙◌}
use native.Mathlib.Omega.{arith}
use borrow.Author.Rules.{rules}
use Rattle.machine.specs.State.{setup_ok}
use Rattle.machine.specs.declared.Machine.{Machine}
use Rattle.operations.specs.Asked.{answered, next}
use Rattle.operations.specs.Log.{state_at}
use Rattle.operations.proofs.Setups.{next_setup}
use Rattle.runner.specs.Run.{room_at}
use Rattle.runner.proofs.Records.{lent_record, next_state, next_room}
use Rattle.runner.proofs.run_records.Goals as goal

pub loop-k-init : goal.loop-k-init
unfolding state_at room_at
loop-k-init c = search rules

pub answer_record-answer-requires-clause-same_setup : goal.answer_record-answer-requires-clause-same_setup
answer_record-answer-requires-clause-same_setup c = c.loop-k.invariant.4

pub loop-k-preserved : goal.loop-k-preserved
loop-k-preserved c =
    let loop = c.loop-k in
    let before = c.args.m.now in
    let log = c.args.log.now in
    let ran = c.answer_record-answer in
    let put = c.put_answer_at in
    let says = ran.ensures.answer ∙ ap (answered loop.m) (lent_record log loop.k) in
    let leaves = ran.ensures.machine ∙ ap (next loop.m) (lent_record log loop.k) in (
      omega (arith, c.loop-k-test.true),
      put.auto.out ∙ loop.invariant.1,
      next_state before loop.m log loop.k loop.invariant.2 leaves,
      put.ensures ∙ next_room before loop.m log loop.k loop.invariant.2 c.args.out.now loop.out _ loop.invariant.3 says,
      ap (λ (x : Machine). x.setup) leaves ∙ next_setup loop.m _ ∙ loop.invariant.4,
    )

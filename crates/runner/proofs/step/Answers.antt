-- A machine that is not well-formed and another length than a record's are refused; else the record is answered. Assumes nothing.
use mathlib.Core.Path.{◌≡◌, sym, ap, ap₂, ◌∙◌}
use Prim.Native.Nat.{ℕ}
use Rattle.error.specs.Codes.{EINVAL}
use Rattle.error.specs.Answer.{Answer, answer}
use Rattle.machine.specs.declared.Machine.{Machine}
use Rattle.runner.specs.Step.{step}
use Rattle.runner.proofs.Records.{formed_setup, bad_machine, no_record, one_record}
use Rattle.runner.proofs.step.Goals as goal
use Rattle.runner.proofs.step.Goals.{then-not-well_formed-via-then-not-well_formed, then-not-well_formed-via-else-not-well_formed+then-bytes-ne-RECORD_BYTES}

pub returns-then-not-well_formed : goal.returns-then-not-well_formed
returns-then-not-well_formed c =
    let m = c.args.m.now in
    let refused : ◌≡◌ {A = Answer ℕ × Machine} (answer EINVAL 0, m) (step m c.args.bytes.now) = elim c.then-not-well_formed.branch [
      | then-not-well_formed-via-then-not-well_formed w ↦ bad_machine m _ (sym c.well_formed-2.ensures ∙ w.if-not-well_formed.true)
      | then-not-well_formed-via-else-not-well_formed+then-bytes-ne-RECORD_BYTES w ↦
          no_record m _ (sym c.well_formed-2.ensures ∙ w.if-not-well_formed.false) w.if-bytes-ne-RECORD_BYTES.true
    ] in
    ap (λ (x : Answer ℕ). (x, m)) c.from.ensures ∙ refused

pub answer_record-requires-clause-good_setup : goal.answer_record-requires-clause-good_setup
answer_record-requires-clause-good_setup c = formed_setup c.args.m.now (sym c.if-not-well_formed.ensures)

pub returns : goal.returns
returns c =
    let ran = c.answer_record.ensures in
    ap₂ (λ (x : Answer ℕ) (y : Machine). (x, y)) ran.answer ran.machine
    ∙ sym (one_record c.args.m.now c.args.bytes.now (sym c.if-not-well_formed.ensures))

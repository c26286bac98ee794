-- The number's bytes are the answer's (`as_one`), over the front of room that is long enough. Assumes nothing.
use mathlib.Core.Path.{ap, ◌∙◌}
use mathlib.Core.List.{List}
use Prim.Native.Nat.{ℕ}
use Rattle.error.specs.Codes.{number_of}
use Rattle.high_first.specs.Place.{placed}
use Rattle.answers.proofs.Laws.{as_one, over_the_front}
use Rattle.answers.proofs.put_answer.Goals as goal

pub returns-clause-room : goal.returns-clause-room
returns-clause-room c =
    let a = c.args in
    let code = number_of a.answer in
    c.put.ensures.room
    ∙ ap (λ (bs : List ℕ). placed 0 bs a.out.now) (as_one code a.value c.greatest-most.result c.ranges.value.fits c.greatest-most.ensures)
    ∙ over_the_front code a.value a.out.now c.if-out-lt-ANSWER_BYTES.false

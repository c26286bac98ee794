-- Each arm's answer meets the room in one of three ways (`Cases`). Assumes nothing.
use mathlib.Core.Path.{sym, ◌∙◌}
use mir.Syntax.{w32}
use mir.ValLaws.{to_z-of_z}
use Rattle.lent_room.proofs.Cases.{refused, no_room, done}
use Rattle.lent_room.proofs.put.Goals as goal

pub returns-clause-code : goal.returns-clause-code
returns-clause-code g c v =
    rw c.in-Ok.is (done (g.V.Lent.bytes c.in-Ok.value) c.args.out.now (sym c.put_over.ensures.fits ∙ c.if-not-put_over.false)).0

pub returns-clause-room : goal.returns-clause-room
returns-clause-room g c v =
    let k = done (g.V.Lent.bytes c.in-Ok.value) c.args.out.now (sym c.put_over.ensures.fits ∙ c.if-not-put_over.false) in
    rw c.in-Ok.is (c.put_over.ensures.room ∙ k.1)

pub returns-then-not-put_over-clause-code : goal.returns-then-not-put_over-clause-code
returns-then-not-put_over-clause-code g c v =
    rw c.in-Ok.is (no_room (g.V.Lent.bytes c.in-Ok.value) c.args.out.now (sym c.put_over.ensures.fits ∙ c.if-not-put_over.true)).0

pub returns-then-not-put_over-clause-room : goal.returns-then-not-put_over-clause-room
returns-then-not-put_over-clause-room g c v =
    let k = no_room (g.V.Lent.bytes c.in-Ok.value) c.args.out.now (sym c.put_over.ensures.fits ∙ c.if-not-put_over.true) in
    rw c.in-Ok.is (c.put_over.ensures.room ∙ k.1)

pub returns-in-Err-clause-code : goal.returns-in-Err-clause-code
returns-in-Err-clause-code g c v =
    let k = refused c.in-Err.why (g.V.Lent.bytes v) c.args.out.now in
    rw c.in-Err.is (to_z-of_z w32 c.from.result (record { sfits = c.from.type_inv }) ∙ c.from.ensures ∙ k.0)

pub returns-in-Err-clause-room : goal.returns-in-Err-clause-room
returns-in-Err-clause-room g c v = rw c.in-Err.is (refused c.in-Err.why (g.V.Lent.bytes v) c.args.out.now).1

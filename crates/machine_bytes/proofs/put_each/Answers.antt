-- The loop's invariant: the bytes of the first `i` items stand in the room, and come back. Assumes nothing.
use mathlib.Core.Path.{◌≡◌, refl, ap, ◌∙◌}
use Prim.Native.Nat.{◌+◌, ◌*◌, ◌<◌}
use native.Mathlib.Omega.{arith}
use borrow.Author.Rules.{rules}
use lib.ListN.{length, get_or}
use lib.Seq.{length-sets}
use Rattle.machine_bytes.proofs.Each.{none_stored, next_stored, all_stored}
use Rattle.machine_bytes.proofs.put_each.Goals as goal

pub loop-i-init : goal.loop-i-init
loop-i-init g c =
    let t = g.T.Field in
    let sized = g.met.T.Field.sized in
    (search rules, refl, none_stored t.to_bytes t.BYTES sized t.from_bytes c.args.out.now c.args.at c.args.items.now)

pub loop-i-preserved : goal.loop-i-preserved
loop-i-preserved g c =
    let t = g.T.Field in
    let sized = g.met.T.Field.sized in
    let w = c.put in
    let l = c.loop-i in
    let x = c.index-items-i.result in
    let room = rw c.BYTES.ensures at w.ensures.room in
    let within : l.i < length c.args.items.now = omega arith in
    let here : x ≡ get_or c.args.items.now l.i x = search rules in (
      omega arith,
      ap length room ∙ length-sets l.out (c.args.at + t.BYTES * l.i) (t.to_bytes x) ∙ l.invariant.1,
      next_stored t.to_bytes t.BYTES sized t.from_bytes c.args.out.now c.args.at c.args.items.now x l.i l.out w.new.out within here
          l.invariant.2 room w.ensures.back,
    )

pub returns-clause-room : goal.returns-clause-room
returns-clause-room g c =
    let t = g.T.Field in
    let l = c.loop-i in
    let end : l.i ≡ length c.args.items.now = omega arith in
    (all_stored t.to_bytes t.BYTES g.met.T.Field.sized t.from_bytes c.args.out.now c.args.at c.args.items.now l.i l.out end l.invariant.2).0

pub returns-clause-back : goal.returns-clause-back
returns-clause-back g c =
    let t = g.T.Field in
    let l = c.loop-i in
    let end : l.i ≡ length c.args.items.now = omega arith in
    (all_stored t.to_bytes t.BYTES g.met.T.Field.sized t.from_bytes c.args.out.now c.args.at c.args.items.now l.i l.out end l.invariant.2).1

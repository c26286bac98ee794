-- The CPU stands behind the thread: where it finds room, so does the thread (`Cases`). Assumes nothing.
use mathlib.Core.Path.{refl, sym, ap, ◌∙◌}
use mathlib.Core.List.{List}
use Prim.Native.Nat.{ℕ}
use Rattle.words.specs.HighFirst.{high_first}
use Rattle.high_first.specs.Place.{placed}
use Rattle.spinlock_validate.specs.declared.Held.{Held}
use Rattle.lent_room.specs.Room.{holder_bytes}
use Rattle.lent_room.proofs.Cases.{none_behind, both, holder_of}
use Rattle.lent_room.proofs.OptionHeldLent.put_over.Goals as goal

pub returns-then-put-clause-room : goal.returns-then-put-clause-room
returns-then-put-clause-room c =
    let held = c.unwrap_or-held in
    let room = c.args.out.now in
    let thread = high_first 8 held.result.thread in
    c.put-then-put.ensures.room
    ∙ ap (λ (l : List ℕ). placed 0 thread l) c.put.ensures.room
    ∙ both thread (high_first 1 held.result.cpu) room (sym c.put.ensures.fits ∙ c.if-put.true)
    ∙ ap (λ (h : Held). placed 0 (holder_bytes h.thread h.cpu) room) held.ensures
    ∙ ap (λ (bs : List ℕ). placed 0 bs room) (holder_of (record { thread = 0; cpu = 0 }) refl refl c.args.self)

pub returns-else-put-clause-room : goal.returns-else-put-clause-room
returns-else-put-clause-room c =
    let held = c.unwrap_or-held in
    let room = c.args.out.now in
    c.put.ensures.room
    ∙ none_behind (high_first 8 held.result.thread) (high_first 1 held.result.cpu) room (sym c.put.ensures.fits ∙ c.if-put.false)
    ∙ ap (λ (h : Held). placed 0 (holder_bytes h.thread h.cpu) room) held.ensures
    ∙ ap (λ (bs : List ℕ). placed 0 bs room) (holder_of (record { thread = 0; cpu = 0 }) refl refl c.args.self)

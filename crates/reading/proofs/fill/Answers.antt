-- What a turn reads stands behind what was read before it. Assumes nothing.
use Rattle.std.proofs.Common.{rules, ◌≡◌, ℕ, ◌+◌, ◌-◌, ◌≤◌, List, ◌++◌, length, take, sym, ap, ◌∙◌, subst, length-take-le}
use Rattle.std.proofs.Math.Seq.{take-append-add}
use Rattle.std.proofs.lemmas.List.{take-append-le}
use Rattle.std.specs.Io.KnownBytes.{Consumes}
use Rattle.std.proofs.KnownBytes.{Consumes-trans}
use borrow.Rule.Slice.PartMut.{put_mid, post_of}
use Rattle.reading.proofs.fill.Goals as goal

-- Bytes written into the part from a place on, and then taken from the start, are the bytes before the place and the first of those written.
front_and_read : (at k n : ℕ) (room part : List ℕ) → at ≤ length room → n ≤ length part
    → take (at + n) (put_mid at k room part) ≡ take at room ++ take n part
front_and_read at k n room part within fits =
    let behind = part ++ post_of at k room in
    ap (λ m. take (m + n) (take at room ++ behind)) (sym (length-take-le at room within))
    ∙ take-append-add (take at room) behind n
    ∙ ap (λ l. take at room ++ l) (take-append-le n part (post_of at k room) fits)

pub loop-size-preserved : goal.loop-size-preserved
loop-size-preserved g c =
    let at = c.loop-size.size in
    let read = c.read.new.buf in
    let bytes = front_and_read at (length c.loop-size.room - at) c.in-Ok.more c.loop-size.room read c.loop-size.invariant.0 c.in-Ok.ensures.bound.0 in (
      search rules,
      search rules,
      subst (Consumes _ _) (sym bytes) (Consumes-trans _ _ _ _ _ c.loop-size.invariant.2 c.in-Ok.ensures.bytes.0),
    )

-- None differs where all bytes are the same. Else the pairs of answers are the chunks of the two strings side by side, and `position` finds the
-- first that differs (`Bytes`). Assumes nothing.
use Rattle.std.proofs.Common.{◌/◌, ◌≤◌, length, sym, ◌∙◌, rules, tests, arith}
use Rattle.std.proofs.lemmas.Iterator.{YieldsList-from_slice, YieldsList-from_zip}
use Rattle.std.proofs.lemmas.Iterator.Search.{position_from_yields_List}
use Rattle.claims.proofs.Bytes.{differ, place_says, front_same}
use Rattle.claims.proofs.lowest_differing.Goals as goal

pub returns-then-starts_with : goal.returns-then-starts_with
returns-then-starts_with c = front_same c.args.claimed.now c.args.right.now (sym c.starts_with.ensures.value ∙ c.if-starts_with.true)

pub returns : goal.returns
returns c =
    let a = c.args.claimed.now in
    let b = c.args.right.now in
    let xs = c.as_chunks.result.0.now in
    let ys = c.as_chunks-2.result.0.now in
    let more : length a / 8 ≤ length b / 8 = omega arith in
    place_says a b (length a / 8) xs ys c.as_chunks.ensures.front (length b / 8) c.as_chunks-2.ensures.front more
    c.as_chunks.ensures.front_len c.as_chunks-2.ensures.front_len c.position.result
    (position_from_yields_List differ c.position.new.self _ c.position.result c.position.ensures.ran
    (YieldsList-from_zip (YieldsList-from_slice xs (cc)) (YieldsList-from_slice ys (cc))) (λ x r q k. search (rules, tests)))

-- Before each turn so many blocks are cut off log and claim, the machine has run their records, and no claimed answer of theirs differs.
-- Assumes nothing.
use Rattle.std.proofs.Common.{rules, arith, sym}
use lib.ListN.{replicate}
use lib.Seq.{length-take-le}
use Rattle.operations.proofs.Lengths.{Lengths}
use Rattle.claims.proofs.Turns.{none_yet, sizes, next, named, all_right, either}
use Rattle.claims.proofs.lowest_wrong.Goals as goal

pub loop-block-init : goal.loop-block-init
loop-block-init c = (
  search rules,
  search rules,
  none_yet c.args.m c.args.log.now c.args.claim.now (search rules) (search rules) (search rules) (search rules) (search rules),
)

pub loop-block-preserved : goal.loop-block-preserved
loop-block-preserved c =
    let good = c.well_formed.0 in
    let made : Lengths c.args.m = record {
      cpus = good.1.1.1.0.1.0.1;
      threads = good.1.1.1.1.0.1.0.1;
      locks = good.1.1.1.1.1.0.1.0.1;
    } in
    let s = c.in-Some.ensures.steps.0 in (
      search rules,
      search rules,
      next c.requires.claim_fits c.loop-block.invariant.2 _ _ _ _ s.0.1 s.1.1 made c.requires.formed c.requires.short_log (replicate 8192 0) (search rules)
          c.run.ensures.machine c.run.ensures.room c.in_default.ensures c.in-Some.ensures.steps.2 s.0.0 s.1.0,
    )

pub overflow_mul-whole : goal.overflow_mul-whole
overflow_mul-whole c =
    let s = c.in-Some.ensures.steps.0 in
    let z = sizes c.requires.claim_fits c.loop-block.invariant.2 _ _ _ _ s.0.1 s.1.1 in
    search (rules, z.most)

pub slice_bounds-run-end : goal.slice_bounds-run-end
slice_bounds-run-end c =
    let s = c.in-Some.ensures.steps.0 in
    let z = sizes c.requires.claim_fits c.loop-block.invariant.2 _ _ _ _ s.0.1 s.1.1 in
    sym (length-take-le _ c.in-Some.records.now z.lent)

pub lowest_differing-requires : goal.lowest_differing-requires
lowest_differing-requires c =
    let s = c.in-Some.ensures.steps.0 in
    let z = sizes c.requires.claim_fits c.loop-block.invariant.2 _ _ _ _ s.0.1 s.1.1 in
    search (rules, z.most, z.whole)

pub overflow_add-result : goal.overflow_add-result
overflow_add-result c =
    let s = c.in-Some.ensures.steps.0 in
    let z = sizes c.requires.claim_fits c.loop-block.invariant.2 _ _ _ _ s.0.1 s.1.1 in
    let found = c.in-Some-lowest_differing.ensures in
    search (rules, z.ends, found)

pub overflow_cast-result : goal.overflow_cast-result
overflow_cast-result c =
    let s = c.in-Some.ensures.steps.0 in
    let z = sizes c.requires.claim_fits c.loop-block.invariant.2 _ _ _ _ s.0.1 s.1.1 in
    let found = c.in-Some-lowest_differing.ensures in
    search (rules, z.ends, found)

pub returns-in-Some-lowest_differing : goal.returns-in-Some-lowest_differing
returns-in-Some-lowest_differing c =
    let good = c.well_formed.0 in
    let made : Lengths c.args.m = record {
      cpus = good.1.1.1.0.1.0.1;
      threads = good.1.1.1.1.0.1.0.1;
      locks = good.1.1.1.1.1.0.1.0.1;
    } in
    let s = c.in-Some.ensures.steps.0 in
    let z = sizes c.requires.claim_fits c.loop-block.invariant.2 _ _ _ _ s.0.1 s.1.1 in
    let found = c.in-Some-lowest_differing.ensures in
    let at = c.in-Some.ensures.steps.1 in
    let named_is =
    named c.requires.claim_fits c.loop-block.invariant.2 _ _ _ _ s.0.1 s.1.1 made c.requires.formed c.requires.short_log (replicate 8192 0) (search rules)
    c.run.ensures.machine c.run.ensures.room (omega (arith, found)) in
    (omega (arith, named_is, found, at), omega (arith, z.ends, found, at))

pub returns : goal.returns
returns c =
    all_right c.requires.claim_fits c.loop-block.invariant.2 (either c.in-None.ensures.steps.0 (λ x p. p.1.0) (λ y q. q.1.0))

-- The equation of the request says its places. Assumes nothing.
use Rattle.std.proofs.Common.{rules, ◌≡◌}
use Rattle.record.specs.Record.{request_of}
use Rattle.record.proofs.Range.{in_arrays_by}
use Rattle.record.proofs.request_of.Goals as goal

pub returns-clause-places : goal.returns-clause-places
unfolding request_of
returns-clause-places c =
    let same : c.carried.result ≡ request_of c.args.setup c.args.bytes.now = search rules in
    (in_arrays_by c.args.setup c.args.bytes.now same).1

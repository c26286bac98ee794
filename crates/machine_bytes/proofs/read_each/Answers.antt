-- Each call reads the element at its place, and what it has taken stays. Assumes nothing.
use borrow.Author.Rules.{rules}
use Rattle.machine_bytes.proofs.Each.{made}
use Rattle.machine_bytes.proofs.read_each.Goals as goal

pub returns : goal.returns
returns g c =
    let t = g.T.Field in
    made t.from_bytes t.BYTES _ _ c.args.at c.args.bytes.now g.row.N c.from_fn.result c.from_fn.ensures.items
    (λ i x q call. (search rules, search rules))

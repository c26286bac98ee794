-- A fragment that is refused leaves the form, and one that is taken what the records and the bytes behind them come to. Assumes nothing.
use mathlib.Core.Path.{◌≡◌}
use borrow.Author.Rules.{rules}
use lib.ListN.{length}
use mathlib.Core.Path.{refl}
use Rattle.std.specs.Prelude.{Err}
use Rattle.feed.proofs.Codes.{feed_taken, feed_refused}
use Rattle.feed.proofs.feed.Goals as goal

pub returns-clause-form : goal.returns-clause-form
returns-clause-form c =
    let a = c.args in
    let ran = c.in_default.ensures in
    let eleven : length a.f.now.pending ≡ 11 = search rules in
    feed_taken a.f.now a.fragment.now (length a.out.now) ran.code eleven ran.form c.min.ensures c.saturating_sub.ensures c.padded-f.ensures

pub returns-in-Err-clause-form : goal.returns-in-Err-clause-form
returns-in-Err-clause-form c =
    let a = c.args in
    let why = c.in-Err.why in
    let told = c.in-Err.ensures in
    feed_refused a.f.now a.fragment.now (length a.out.now) why (Err why) refl told.code told.form

-- Where no record is completed, the code of the tests; else what the runner says of the first record and those behind it. Assumes nothing.
use mathlib.Core.Path.{◌≡◌, sym, ◌∙◌}
use Prim.Native.Nat.{◌-◌}
use borrow.Author.Rules.{rules}
use lib.ListN.{length}
use Rattle.std.proofs.lemmas.List.{take_rest}
use Rattle.feed.proofs.Runs.{waits, runs}
use Rattle.feed.proofs.run_arrived.Goals as goal

pub returns-then-not-completes : goal.returns-then-not-completes
returns-then-not-completes c =
    let a = c.args in
    let none = sym c.completes.ensures ∙ c.if-not-completes.true in
    let told = waits a.f.now a.fragment.now a.out.now none c.well_formed-then-not-completes.ensures c.feed_code.ensures in
    record { code = told.code; form = told.form; room = told.room_is }

pub returns : goal.returns
returns c =
    let a = c.args in
    let some = sym c.completes.ensures ∙ c.if-not-completes.false in
    let eleven : length a.f.now.pending ≡ 11 = search rules in
    let others = take_rest a.fragment.now (12 - a.f.now.count) in
    let told = runs a.f.now a.fragment.now a.out.now eleven some c.run_joined.new.out c.padded-first.ensures
    (rw others at c.run_joined.ensures.machine) (rw others at c.run_joined.ensures.room) in
    record { code = told.code; form = told.form; room = told.room_is }

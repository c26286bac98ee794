-- Runs of stores, one behind the other, and the numbers come back. Assumes nothing.
use borrow.Author.Rules.{rules}
use mathlib.Core.Path.{◌≡◌}
use mir.Syntax.{w32}
use mir.Val.{SFits}
use mir.ValLaws.{to_z-of_z}
use Rattle.machine.specs.declared.CpuId.{CpuId}
use Rattle.machine_bytes.specs.Bytes.{tag_of_place}
use Rattle.machine_bytes.proofs.Cells.{thread_stored, thread_back, is_mapped}
use Rattle.machine_bytes.proofs.elements.ThreadField.put.Goals as goal

pub returns-clause-room : goal.returns-clause-room
returns-clause-room c =
    let a = c.args in
    let fits : SFits w32 a.self.priority = search rules in
    let same = to_z-of_z w32 a.self.priority fits in
    let number : c.map.result ≡ tag_of_place a.self.place =
    is_mapped (λ (x : CpuId). x.0) a.self.place c.map.result c.map.ensures.cases
    (λ x n told. search rules) in
    thread_stored a.self a.out.now a.at c.map.result number c.put.ensures.room (rw same at c.put-2.ensures.room) c.put-3.ensures.room

pub returns-clause-back : goal.returns-clause-back
returns-clause-back c =
    let a = c.args in
    let fits : SFits w32 a.self.priority = search rules in
    let same = to_z-of_z w32 a.self.priority fits in
    let number : c.map.result ≡ tag_of_place a.self.place =
    is_mapped (λ (x : CpuId). x.0) a.self.place c.map.result c.map.ensures.cases
    (λ x n told. search rules) in
    thread_back a.self c.put.ensures.back (rw same at c.put-2.ensures.back) (rw number at c.put-3.ensures.back)

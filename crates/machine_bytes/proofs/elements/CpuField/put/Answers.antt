-- Runs of stores, one behind the other, and the numbers come back. Assumes nothing.
use borrow.Author.Rules.{rules}
use mathlib.Core.Path.{◌≡◌}
use mir.Syntax.{w32}
use mir.Val.{SFits}
use mir.ValLaws.{to_z-of_z}
use Rattle.machine.specs.declared.ThreadId.{ThreadId}
use Rattle.machine_bytes.specs.Bytes.{tag_of_current}
use Rattle.machine_bytes.proofs.Cells.{cpu_stored, cpu_back, is_mapped}
use Rattle.machine_bytes.proofs.elements.CpuField.put.Goals as goal

pub returns-clause-room : goal.returns-clause-room
returns-clause-room c =
    let a = c.args in
    let fits : SFits w32 a.self.run.priority = search rules in
    let same = to_z-of_z w32 a.self.run.priority fits in
    let number : c.map.result ≡ tag_of_current a.self.run.current =
    is_mapped (λ (x : ThreadId). x.0) a.self.run.current c.map.result c.map.ensures.cases
    (λ x n told. search rules) in
    cpu_stored a.self a.out.now a.at c.map.result number c.put.ensures.room c.put-2.ensures.room (rw same at c.put-3.ensures.room)
    c.put-4.ensures.room

pub returns-clause-back : goal.returns-clause-back
returns-clause-back c =
    let a = c.args in
    let fits : SFits w32 a.self.run.priority = search rules in
    let same = to_z-of_z w32 a.self.run.priority fits in
    let number : c.map.result ≡ tag_of_current a.self.run.current =
    is_mapped (λ (x : ThreadId). x.0) a.self.run.current c.map.result c.map.ensures.cases
    (λ x n told. search rules) in
    cpu_back a.self c.put.ensures.back (rw number at c.put-2.ensures.back) (rw same at c.put-3.ensures.back) c.put-4.ensures.back

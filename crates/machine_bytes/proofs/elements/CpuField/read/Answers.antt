-- Each field is read at its place. Assumes nothing.
use borrow.Author.Rules.{rules}
use mathlib.Core.Path.{◌≡◌, ap, ◌∙◌}
use Prim.Native.Nat.{ℕ}
use mir.Syntax.{w32}
use mir.ValLaws.{to_z-of_z}
use Rattle.machine_bytes.specs.Bytes.{current_of}
use Rattle.machine_bytes.proofs.Cells.{cpu_read, is_mapped}
use Rattle.machine_bytes.proofs.elements.CpuField.read.Goals as goal

pub returns : goal.returns
returns c =
    let a = c.args in
    let p = c.read-priority in
    let current : c.map-current.result ≡ current_of c.read.result =
    is_mapped (λ (n : ℕ). record { 0 = n }) c.read.result c.map-current.result c.map-current.ensures.cases
    (λ n x told. search rules) in
    cpu_read _ a.bytes.now a.at c.read-active.ensures (current ∙ ap current_of c.read.ensures)
    (to_z-of_z w32 p.result (record { sfits = p.type_inv }) ∙ p.ensures) c.read-hold.ensures

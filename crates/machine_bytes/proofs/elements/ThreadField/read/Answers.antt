-- Each field is read at its place. Assumes nothing.
use borrow.Author.Rules.{rules}
use mathlib.Core.Path.{◌≡◌, ap, ◌∙◌}
use Prim.Native.Nat.{ℕ}
use mir.Syntax.{w32}
use mir.ValLaws.{to_z-of_z}
use Rattle.machine_bytes.specs.Bytes.{place_of}
use Rattle.machine_bytes.proofs.Cells.{thread_read, is_mapped}
use Rattle.machine_bytes.proofs.elements.ThreadField.read.Goals as goal

pub returns : goal.returns
returns c =
    let a = c.args in
    let p = c.read-priority in
    let place : c.map-place.result ≡ place_of c.read.result =
    is_mapped (λ (n : ℕ). record { 0 = n }) c.read.result c.map-place.result c.map-place.ensures.cases
    (λ n x told. search rules) in
    thread_read _ a.bytes.now a.at c.read-mask.ensures (to_z-of_z w32 p.result (record { sfits = p.type_inv }) ∙ p.ensures)
    (place ∙ ap place_of c.read.ensures)

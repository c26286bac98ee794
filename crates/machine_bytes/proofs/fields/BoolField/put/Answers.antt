-- One store. Assumes nothing.
use mathlib.Core.Path.{ap, ◌∙◌}
use mathlib.Core.List.{List, [], ◌∷◌}
use Prim.Native.Nat.{ℕ}
use lib.Seq.{sets}
use Rattle.machine_bytes.specs.Bytes.{yes_at, yes_bytes}
use Rattle.machine_bytes.proofs.Numbers.{yes_byte}
use Rattle.machine_bytes.proofs.Cells.{yes_back}
use Rattle.machine_bytes.proofs.fields.BoolField.put.Goals as goal

pub returns-clause-room : goal.returns-clause-room
returns-clause-room c =
    let a = c.args in
    ap (λ (b : ℕ). sets a.out.now a.at (b ∷ [])) c.from.ensures ∙ ap (λ (bs : List ℕ). sets a.out.now a.at bs) (yes_byte a.self)

pub returns-clause-back : goal.returns-clause-back
unfolding yes_at yes_bytes
returns-clause-back c rest = yes_back c.args.self

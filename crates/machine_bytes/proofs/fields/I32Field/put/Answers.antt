-- The bits' four bytes. Assumes nothing.
use mathlib.Core.Path.{ap, ◌∙◌}
use Prim.Native.Nat.{ℕ}
use lib.Seq.{sets}
use Rattle.words.specs.Signed.{to_signed}
use Rattle.words.proofs.Signed.{to_from_signed}
use Rattle.machine_bytes.specs.Bytes.{four_bytes}
use Rattle.machine_bytes.proofs.Numbers.{signed_fits, bits_again}
use Rattle.machine_bytes.proofs.fields.I32Field.put.Goals as goal

pub returns-clause-room : goal.returns-clause-room
returns-clause-room c =
    let a = c.args in
    c.put.ensures.room ∙ ap (λ (n : ℕ). sets a.out.now a.at (four_bytes n)) (c.cast_unsigned.ensures ∙ bits_again a.self c.ranges.self)

pub returns-clause-back : goal.returns-clause-back
returns-clause-back c rest =
    let z = c.args.self in
    let bits = rw (c.cast_unsigned.ensures ∙ bits_again z c.ranges.self) at c.put.ensures.back in
    ap (to_signed 31) (bits rest) ∙ to_from_signed 31 z (signed_fits z c.ranges.self)

-- By the length of the bytes, and each part as its reader gives it. Assumes nothing.
use borrow.Author.Tests.{lt-ltb, le-ltb}
use Rattle.machine.specs.State.{not_made}
use Rattle.machine_bytes.specs.Bytes.{machine_of, reading}
use Rattle.machine_bytes.proofs.machine_of.Goals as goal

pub returns-then-bytes-lt-MACHINE_BYTES : goal.returns-then-bytes-lt-MACHINE_BYTES
unfolding reading not_made
returns-then-bytes-lt-MACHINE_BYTES c = rw (lt-ltb _ _ c.if-bytes-lt-MACHINE_BYTES.true)

pub returns : goal.returns
unfolding reading machine_of
returns c =
    rw (
      le-ltb _ _ c.if-bytes-lt-MACHINE_BYTES.false,
      c.read.ensures,
      c.read_each.ensures,
      c.read_each-2.ensures,
      c.read_each-3.ensures,
    )

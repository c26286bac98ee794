-- The current CPU's bit decides, and where it is clear, what is left above max. Assumes nothing.
use borrow.Author.Tests.{le-leb, lt-ltb, eq-eqb, ne_eqb}
use mathlib.Core.Path.{◌≡◌, ap, sym, ◌∙◌}
use mathlib.Core.Bool.{not}
use Prim.Native.Nat.{ℕ, ◌<◌, ◌*◌, ◌%◌, ◌^◌}
use native.Mathlib.Omega.{arith}
use lib.Bits.{bit_and}
use lib.Dec.{eqb}
use Rattle.words.specs.Bit.{bit}
use Rattle.words.proofs.BitTests.{shl_one, test_bit, top_test}
use Rattle.ipi.specs.Ipi.{validate_ipi_mask}
use Rattle.ipi.proofs.validate_ipi_mask.Goals as goal

-- The test that the code makes of the current CPU's bit.
names : (current mask : ℕ) → current < 32 → not (eqb (bit_and mask ((1 * 2 ^ current) % 2 ^ 32)) 0) ≡ bit current mask
names current mask fits = rw (shl_one 32 current fits) (test_bit current mask)

pub returns-then-not-names_current : goal.returns-then-not-names_current
unfolding validate_ipi_mask
returns-then-not-names_current c =
    let a = c.args in
    let few = c.if-max_cpus-gt-MAX_IPI_CPUS.false in
    let present = c.if-current_cpu-max_cpus.false in
    let clear = sym (names a.current_cpu a.mask (omega (arith, few, present))) ∙ ap not (eq-eqb _ 0 c.if-not-names_current.true) in
    simp (le-leb _ _ few, lt-ltb _ _ present, clear, top_test a.max_cpus a.mask)

pub returns-else-not-names_current : goal.returns-else-not-names_current
unfolding validate_ipi_mask
returns-else-not-names_current c =
    let a = c.args in
    let few = c.if-max_cpus-gt-MAX_IPI_CPUS.false in
    let present = c.if-current_cpu-max_cpus.false in
    let named = ne_eqb _ 0 c.if-not-names_current.false in
    let set = sym (names a.current_cpu a.mask (omega (arith, few, present))) ∙ ap not named in
    simp (le-leb _ _ few, lt-ltb _ _ present, set, named)

-- Each return is the case that the tests on the way name (`Cases`). Assumes nothing.
use mathlib.Core.Path.{◌≡◌, ◌∙◌}
use Prim.Native.Nat.{◌*◌, ◌/◌}
use native.Mathlib.Omega.{arith}
use lib.ListN.{length}
use mir.Syntax.{w32}
use mir.ValLaws.{to_z-of_z}
use Rattle.error.proofs.Answers.{says_refused}
use Rattle.error.specs.declared.Refusal.TheVariants.{Einval}
use Rattle.cpu_bytes.proofs.Cases.{wrong_active, ruled}
use Rattle.cpu_bytes.proofs.ipi_mask_of_bytes.Goals as goal

pub returns-in_err-records : goal.returns-in_err-records
returns-in_err-records c =
    let a = c.args in
    let long : length a.cpus.now ≡ 5 * a.num_cpus = omega arith in
    let whole : length a.cpus.now / 5 ≡ a.num_cpus = omega arith in
    let told = c.in_err-records.ensures in
    let bad = rw (told.ok_part, whole) at c.decode.ensures in
    let why : c.in_err-records.field-0.0 ≡ Einval = cc (rw told.ok_part at told.value) in
    says_refused 0 Einval c.from_residual.result (rw why at c.from_residual.ensures.1)
    ∙ wrong_active a.current_cpu a.target_prio a.target_cpu_mask a.cpus.now a.num_cpus a.max_cpus long bad

pub returns : goal.returns
returns c =
    let a = c.args in
    let long : length a.cpus.now ≡ 5 * a.num_cpus = omega arith in
    let whole : length a.cpus.now / 5 ≡ a.num_cpus = omega arith in
    let good = rw (c.in_ok-records.ensures.ok_part, whole) at c.decode.ensures in
    let same = to_z-of_z w32 a.target_prio c.ranges.target_prio in
    c.compute_ipi_mask.ensures
    ∙ rw good.1 (ruled a.current_cpu a.target_prio a.target_cpu_mask a.cpus.now a.num_cpus a.max_cpus long good.0 _ same)

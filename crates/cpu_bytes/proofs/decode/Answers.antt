-- A turn decodes the CPU whose bytes are its chunk. Assumes nothing.
use mathlib.Core.Path.{refl, ap, ◌∙◌}
use mathlib.Core.List.{List, []}
use Prim.Native.Nat.{ℕ, ◌*◌, ◌/◌, ◌<◌}
use native.Mathlib.Numerals.{add-one}
use native.Mathlib.Omega.{arith}
use lib.ListN.{length, get_or}
use Rattle.cpu_bytes.specs.Cpus.{active_bytes, cpus_of_bytes}
use Rattle.cpu_bytes.proofs.Chunks.{chunk_is, active_is, cpu_is, one_refused}
use Rattle.cpu_bytes.proofs.decode.Goals as goal

pub loop-idx-init : goal.loop-idx-init
unfolding active_bytes cpus_of_bytes
loop-idx-init c = (refl, refl)

pub returns-in_err-records : goal.returns-in_err-records
returns-in_err-records c =
    let bs = c.args.cpus.now in
    let num = length bs / 5 in
    let idx = c.loop-idx.idx in
    let within : idx < num = omega arith in
    let chunk = ap (λ (l : List (List ℕ)). get_or l idx []) c.as_chunks.ensures.front ∙ chunk_is num bs idx within in
    let bad = rw (chunk, active_is bs (5 * idx)) at c.in_err-records.ensures in
    rw c.from_residual.ensures (one_refused bs num idx within bad)

pub loop-idx-preserved : goal.loop-idx-preserved
unfolding active_bytes cpus_of_bytes
loop-idx-preserved c =
    let bs = c.args.cpus.now in
    let num = length bs / 5 in
    let idx = c.loop-idx.idx in
    let within : idx < num = omega arith in
    let chunk = ap (λ (l : List (List ℕ)). get_or l idx []) c.as_chunks.ensures.front ∙ chunk_is num bs idx within in
    let said = rw chunk at c.in_ok-records.ensures in
    let good = rw (active_is bs (5 * idx)) at said.0 in
    let i = c.loop-idx.invariant in
    rw (add-one, i.0, i.1, good, said.1 ∙ cpu_is bs (5 * idx)) (refl, refl)

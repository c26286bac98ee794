-- The run cells that the interrupt rule is given, as records: each stands in its place. Assumes nothing.
use mathlib.Core.Path.{◌≡◌, refl, sym, ap, ◌∙◌}
use mathlib.Core.List.{List, [], ◌∷◌, ◌++◌, map, map-append}
use Prim.Native.Nat.{ℕ, zero, suc, ◌+◌, ◌≤◌}
use native.Mathlib.Omega.{arith}
use lib.ListN.{length, get_or, set, take, length-set, get_or-map}
use lib.Seq.{take-suc, take_all}
use Rattle.ipi.specs.Ipi.{no_cpu as Ipi·noCpu, max_ipi_cpus, compute_ipi_mask}
use Rattle.ipi.specs.declared.CpuRecord.{CpuRecord}
use Rattle.ipi.proofs.Places.{next_placed, same_rule}
use Rattle.machine.specs.State.{cpu_slots, no_cpu}
use Rattle.machine.specs.declared.Setup.{Setup}
use Rattle.machine.specs.declared.Cpu.{Cpu}
use Rattle.machine.specs.declared.Thread.{Thread}
use Rattle.rules.specs.Rules.{cpu_record, runs_of, ipi, ipi_of}
use Rattle.thread_rules.specs.Records.{record_at, HasRecords}

abbrev record_of : Cpu → CpuRecord
record_of cpu = cpu_record cpu.run

records_below : (cpus : List Cpu) (k : ℕ) → k ≤ length cpus → map cpu_record (runs_of k cpus) ≡ map record_of (take k cpus)
records_below cpus zero h = refl
records_below cpus (suc k) h =
    map-append cpu_record (runs_of k cpus) ((get_or cpus k no_cpu).run ∷ [])
    ∙ ap (λ (front : List CpuRecord). front ++ (record_of (get_or cpus k no_cpu) ∷ [])) (records_below cpus k (omega arith))
    ∙ sym (map-append record_of (take k cpus) (get_or cpus k no_cpu ∷ []))
    ∙ ap (map record_of) (sym (take-suc cpus k no_cpu h))

-- Four records more.
pub four_placed : (cpus : List Cpu) (at : ℕ) (records : List CpuRecord) (a b c d : CpuRecord) → at + 4 ≤ length records
    → a ≡ record_at cpus at → b ≡ record_at cpus (at + 1) → c ≡ record_at cpus (at + 2) → d ≡ record_at cpus (at + 3) → HasRecords at cpus records
    → HasRecords (at + 4) cpus (set (set (set (set records at a) (at + 1) b) (at + 2) c) (at + 3) d)
four_placed cpus at records a b c d room is-a is_b is_c is-d have =
    let cpu = record_at cpus in
    let one = set records at (cpu at) in
    let two = set one (at + 1) (cpu (at + 1)) in
    let three = set two (at + 2) (cpu (at + 2)) in
    let long-one : length one ≡ length records = length-set records at (cpu at) in
    let long-two : length two ≡ length records = length-set one (at + 1) (cpu (at + 1)) ∙ long-one in
    let long-three : length three ≡ length records = length-set two (at + 2) (cpu (at + 2)) ∙ long-two in
    let first : HasRecords (at + 1) cpus one = next_placed cpu at records (omega arith) have in
    let second : HasRecords (at + 2) cpus two = λ i h. next_placed cpu (at + 1) one (omega arith) first i (omega arith) in
    let third : HasRecords (at + 3) cpus three = λ i h. next_placed cpu (at + 2) two (omega arith) second i (omega arith) in
    rw (is-a, is_b, is_c, is-d) (λ i h. next_placed cpu (at + 3) three (omega arith) third i (omega arith))

-- On a machine with a CPU in every slot.
pub runs_placed : (cpus : List Cpu) → length cpus ≡ cpu_slots → (n : ℕ) → HasRecords n cpus (map cpu_record (runs_of cpu_slots cpus))
runs_placed cpus all n i h =
    ap (λ (records : List CpuRecord). get_or records i Ipi·noCpu)
    (records_below cpus cpu_slots (omega arith) ∙ ap (map record_of) (take_all cpu_slots cpus (omega arith)))
    ∙ get_or-map record_of cpus i no_cpu

-- So the rule answers by any records that have the machine's CPUs in their places.
pub by_records : (s : Setup) (c : ℕ) (cpus : List Cpu) (k : Thread) (records : List CpuRecord) → length cpus ≡ cpu_slots
    → HasRecords s.n cpus records → compute_ipi_mask c k.priority k.mask records s.n max_ipi_cpus ≡ ipi_of s c cpus k
unfolding ipi
by_records s c cpus k records all have =
    same_rule (record_at cpus) c k.priority k.mask s.n max_ipi_cpus records (map cpu_record (runs_of cpu_slots cpus)) have
    (runs_placed cpus all s.n)

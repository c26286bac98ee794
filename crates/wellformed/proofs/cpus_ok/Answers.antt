-- The answer of `all` is of the three tests at each CPU. Assumes nothing.
use Rattle.std.proofs.Common.{◌≡◌, true, false, ℕ, Bool, ◌&&◌, rules, tests}
use Rattle.std.proofs.lemmas.Iterator.{YieldsList-from_slice, cases_from_all}
use Rattle.std.proofs.lemmas.Iterator.Consumers.{YieldsList-from_enumerate}
use Rattle.element_tests.specs.Elements.{slot_by, current_by, idle_by}
use Rattle.machine.specs.State.{no_cpu, cpu_slots}
use Rattle.machine.specs.declared.Cpu.{Cpu}
use Rattle.machine.specs.declared.Machine.{Machine}
use Rattle.wellformed.proofs.Tests.{all_numbered}
use Rattle.wellformed.proofs.cpus_ok.Goals as goal

-- What the closure asks of CPU i.
abbrev asked : Machine → ℕ → Cpu → Bool
asked m i cpu = slot_by m.setup.n i cpu && (current_by m.threads i cpu.run cpu.run.current && idle_by cpu.run.priority cpu.run.current)

pub returns : goal.returns
returns c =
    let m = c.args.m.now in
    let yes = λ (p : ℕ × Cpu). asked m p.0 p.1 ≡ true in
    let no = λ (p : ℕ × Cpu). asked m p.0 p.1 ≡ false in
    all_numbered (asked m) no_cpu m.cpus cpu_slots _ (cc)
    (cases_from_all _ _ _ yes no c.all.ensures.ran (YieldsList-from_enumerate (YieldsList-from_slice m.cpus (cc)) (cc))
    (λ x q k. search (rules, tests)) (λ x q k. search (rules, tests)))

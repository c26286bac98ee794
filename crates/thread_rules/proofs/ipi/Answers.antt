-- A CPU that the machine does not have is refused; else the rule on the records of its CPUs, of which it looks at those below n. Assumes nothing.
use mathlib.Core.Path.{◌≡◌, sym, ◌∙◌}
use mathlib.Core.Bool.{true}
use native.Mathlib.Nat.{not-suc-le-zero}
use native.Mathlib.Omega.{arith}
use lib.ListN.{length}
use borrow.Author.Rules.{rules}
use Rattle.words.proofs.Choice.{and_left}
use Rattle.machine.specs.State.{cpu_slots, setup_ok, has_cpu}
use Rattle.machine.proofs.Size.{size_says}
use Rattle.thread_rules.specs.Records.{HasRecords}
use Rattle.thread_rules.proofs.Records.{by_records}
use Rattle.thread_rules.proofs.ipi.Goals as goal

pub returns-then-setup-le4 : goal.returns-then-setup-le4
returns-then-setup-le4 c =
    let a = c.args in
    let four = c.four_more-four in
    let all : length a.cpus ≡ cpu_slots = search rules in
    let have : HasRecords a.setup.n a.cpus four.result =
    λ i h. four.ensures (λ _ none. absurd (not-suc-le-zero none)) i (omega (arith, c.if-setup-le4.true)) in
    rw (sym c.has_cpu.ensures ∙ c.if-not-has_cpu.false)
    (c.ipi_by.ensures ∙ by_records a.setup a.c.0 a.cpus a.thread four.result all have)

pub returns : goal.returns
returns c =
    let a = c.args in
    let four = c.four_more-four in
    let sixteen = c.twelve_more in
    let all : length a.cpus ≡ cpu_slots = search rules in
    let has : has_cpu a.setup a.c.0 ≡ true = sym c.has_cpu.ensures ∙ c.if-not-has_cpu.false in
    let few = (size_says a.setup (and_left (setup_ok a.setup) _ has)).few in
    let have : HasRecords a.setup.n a.cpus sixteen.result =
    λ i h. sixteen.ensures (four.ensures (λ _ none. absurd (not-suc-le-zero none))) i (omega arith) in
    rw has (c.ipi_by-2.ensures ∙ by_records a.setup a.c.0 a.cpus a.thread sixteen.result all have)

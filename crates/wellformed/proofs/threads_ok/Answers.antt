-- The answer of `all` is of the four tests at each thread. Assumes nothing.
use Rattle.std.proofs.Common.{◌≡◌, true, false, ℕ, Bool, ◌&&◌, rules, tests}
use Rattle.std.proofs.lemmas.Iterator.{YieldsList-from_slice, cases_from_all}
use Rattle.std.proofs.lemmas.Iterator.Consumers.{YieldsList-from_enumerate}
use Rattle.element_tests.specs.Elements.{place_by, mask_by, pin_by}
use Rattle.machine.specs.State.{is_priority, no_thread, thread_count}
use Rattle.machine.specs.declared.Machine.{Machine}
use Rattle.machine.specs.declared.Thread.{Thread}
use Rattle.wellformed.proofs.Tests.{all_numbered}
use Rattle.wellformed.proofs.threads_ok.Goals as goal

-- What the closure asks of thread i.
abbrev asked : Machine → ℕ → Thread → Bool
asked m i thread =
    place_by m.setup.n m.cpus i thread.place
    && (is_priority thread.priority && (mask_by m.setup.pin_only thread && pin_by m.setup thread))

pub returns : goal.returns
returns c =
    let m = c.args.m.now in
    let yes = λ (p : ℕ × Thread). asked m p.0 p.1 ≡ true in
    let no = λ (p : ℕ × Thread). asked m p.0 p.1 ≡ false in
    all_numbered (asked m) no_thread m.threads thread_count _ (cc)
    (cases_from_all _ _ _ yes no c.all.ensures.ran (YieldsList-from_enumerate (YieldsList-from_slice m.threads (cc)) (cc))
    (λ x q k. search (rules, tests)) (λ x q k. search (rules, tests)))

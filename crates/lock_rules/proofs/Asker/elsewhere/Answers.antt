-- The two words are compared (`other_word`). Assumes nothing.
use mathlib.Core.Path.{ap, ◌∙◌}
use mathlib.Core.Bool.{not}
use Prim.Native.Nat.{ℕ}
use lib.Dec.{eqb}
use Rattle.lock_rules.proofs.Words.{other_word}
use Rattle.lock_rules.proofs.Asker.elsewhere.Goals as goal

pub returns : goal.returns
returns c =
    let a = c.args in
    let self = a.self in
    ap (λ (w : ℕ). not (eqb a.lock.word w)) c.word.ensures ∙ other_word self.setup self.cpu.0 self.thread.0 self.on_a_cpu a.lock

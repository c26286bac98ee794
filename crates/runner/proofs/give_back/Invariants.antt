-- The locks before the index are given back, and the others are as they were. Assumes nothing.
use mathlib.Core.Path.{◌≡◌}
use Rattle.runner.proofs.GivenBack.{partly}
use Rattle.runner.proofs.give_back.Given as goal

abbrev pub invariant-loop-lock : goal.invariant-loop-lock
invariant-loop-lock l = l.locks ≡ partly l.setup l.c.0 l.fn.locks l.lock-index

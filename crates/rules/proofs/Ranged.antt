-- A rule that is called with numbers in range is the rule, and one that is not is refused. Assumes nothing.
use mathlib.Core.Path.{◌≡◌}
use mathlib.Core.Bool.{Bool, true, false}
use Prim.Native.Nat.{ℕ}
use Rattle.error.specs.Codes.{EINVAL}
use Rattle.error.specs.Answer.{Answer, answer}
use Rattle.rules.specs.Rules.{ranged}

module _ {W : Type 0} {in_range : Bool} (cells : W) (o : Answer ℕ × W) where
  pub within : in_range ≡ true → o ≡ ranged in_range cells o
  within e = rw e

  pub outside : in_range ≡ false → (answer EINVAL 0, cells) ≡ ranged in_range cells o
  outside e = rw e

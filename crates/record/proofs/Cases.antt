-- What the form test returns of another length. Assumes nothing.
use mathlib.Core.Path.{◌≡◌}
use mathlib.Core.Bool.{true}
use mathlib.Core.List.{List}
use Prim.Native.Nat.{ℕ}
use lib.ListN.{length}
use borrow.Author.Tests.{ne_eqb}
use Rattle.machine.specs.State.{setup_ok}
use Rattle.machine.specs.declared.Setup.{Setup}
use Rattle.record.specs.Record.{malformed, request_of}

-- At another length than twelve bytes everything is malformed.
module _ (k : Setup) (bs : List ℕ) (ok : setup_ok k ≡ true) where
  pub not_twelve : (length bs ≡ 12 → ⊥) → malformed ≡ request_of k bs
  unfolding request_of
  not_twelve other = rw (ok, ne_eqb (length bs) 12 other)

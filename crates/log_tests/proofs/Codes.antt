-- The code of a run, test by test in their order. Assumes nothing.
use mathlib.Core.Path.{◌≡◌}
use mathlib.Core.Bool.{Bool, true, false}
use Prim.Native.Nat.{ℕ, ◌*◌, ◌/◌, ◌%◌, ◌≤◌, ◌<◌}
use borrow.Author.Tests.{lt-ltb, le-ltb, eq-eqb, ne_eqb}
use Rattle.error.specs.Codes.{OK, ENOMEM, EINVAL, EOVERFLOW}
use Rattle.log_tests.specs.RunCode.{run_code}

module _ (formed : Bool) (size room : ℕ) where
  pub ill_formed : formed ≡ false → EINVAL ≡ run_code formed size room
  unfolding run_code
  ill_formed f = simp f

  module _ (f : formed ≡ true) where
    pub too_long : 24576 < size → EOVERFLOW ≡ run_code formed size room
    unfolding run_code
    too_long h = simp (f, lt-ltb _ _ h)

    module _ (h : size ≤ 24576) where
      pub not_whole : (size % 12 ≡ 0 → ⊥) → EINVAL ≡ run_code formed size room
      unfolding run_code
      not_whole k = simp (f, le-ltb _ _ h, ne_eqb _ _ k)

      module _ (k : size % 12 ≡ 0) where
        pub no_room : room < size / 12 * 8 → ENOMEM ≡ run_code formed size room
        unfolding run_code
        no_room r = simp (f, le-ltb _ _ h, eq-eqb _ _ k, lt-ltb _ _ r)

        pub runs : size / 12 * 8 ≤ room → OK ≡ run_code formed size room
        unfolding run_code
        runs r = simp (f, le-ltb _ _ h, eq-eqb _ _ k, le-ltb _ _ r)

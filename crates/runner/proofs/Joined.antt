-- A log whose first record is lent apart, over plain variables: what its tests say of the two parts, and the two runs as one. Assumes nothing.
use mathlib.Core.Path.{◌≡◌, ap, ap₂, sym, ◌∙◌}
use mathlib.Core.Bool.{Bool, true, false}
use mathlib.Core.List.{List, ◌++◌}
use Prim.Native.Nat.{ℕ, ◌+◌, ◌-◌, ◌*◌, ◌/◌, ◌≤◌}
use native.Mathlib.Omega.{arith}
use lib.IntN.{ℤ}
use lib.ListN.{length, take, drop, length-append}
use Rattle.error.specs.Codes.{is_ok}
use Rattle.error.specs.Answer.{answer}
use Rattle.machine.specs.State.{setup_ok}
use Rattle.machine.specs.declared.Machine.{Machine}
use Rattle.operations.specs.Log.{state_at}
use Rattle.operations.proofs.Pieces.{state_pieces}
use Rattle.operations.proofs.Setups.{state_setup}
use Rattle.wellformed.specs.WellFormed.{well_formed}
use Rattle.log_tests.specs.RunCode.{run_code}
use Rattle.log_tests.proofs.Accepted.{machine_formed, short_enough, room_enough}
use Rattle.runner.specs.Run.{room_at, ran, ran_room}
use Rattle.runner.proofs.Answers.{room_pieces}
use Rattle.runner.proofs.Records.{rest_put, ran_refused, ran_whole, formed_setup}

-- What holds of a machine, of the bytes behind the first record and of a room where the tests have passed.
pub record Passed (m : Machine) (others room : List ℕ) : Type 0 where
  pub setup : setup_ok m.setup ≡ true
  pub short : length others ≤ 24576
  pub first_fits : 8 ≤ length room
  pub others_fit : length others / 12 * 8 ≤ length room - 8

module _ (m : Machine) (first others room : List ℕ) (twelve : length first ≡ 12) {formed : Bool} {code : ℤ} (f : formed ≡ well_formed m)
    (is : code ≡ run_code formed (12 + length others) (length room)) where
  size : 12 + length others ≡ length (first ++ others)
  size = sym (length-append first others ∙ ap (λ n. n + length others) twelve)

  tested : code ≡ run_code formed (length (first ++ others)) (length room)
  tested = is ∙ ap (λ n. run_code formed n (length room)) size

  pub joined_refused : is_ok code ≡ false → (answer code m ≡ ran m (first ++ others) (length room)) × (room ≡ ran_room m (first ++ others) room)
  joined_refused = ran_refused m (first ++ others) room f tested

  module _ (fine : is_ok code ≡ true) where
    passed : is_ok (run_code formed (12 + length others) (length room)) ≡ true
    passed = ap is_ok (sym is) ∙ fine

    all_fit : (1 + length others / 12) * 8 ≤ length room
    all_fit = omega (arith, room_enough formed (12 + length others) (length room) passed)

    pub joined_passed : Passed m others room
    joined_passed =
        record {
          setup = formed_setup m (sym f ∙ machine_formed formed (12 + length others) (length room) passed);
          short = omega (arith, short_enough formed (12 + length others) (length room) passed);
          first_fits = omega (arith, all_fit);
          others_fit = omega (arith, all_fit);
        }

    -- The machine that the first record leaves has the setup that it had.
    pub others_setup : {begun : Machine} → begun ≡ state_at m first (length first / 12) → setup_ok begun.setup ≡ true
    others_setup e =
        ap (λ (x : Machine). setup_ok x.setup) e ∙ ap setup_ok (state_setup m first (length first / 12)) ∙ joined_passed.setup

    one : length first / 12 ≡ 1
    one = ap (λ n. n / 12) twelve

    records : 1 + length others / 12 ≡ length (first ++ others) / 12
    records = omega (arith, size)

    -- The two runs, the second in the room behind the first answer, are the run of the whole log.
    pub joined_whole : {begun last : Machine} (written after : List ℕ)
        → begun ≡ state_at m first (length first / 12) → written ≡ room_at m first room (length first / 12)
        → last ≡ state_at begun others (length others / 12)
        → after ≡ room_at begun others (take (length written - 8) (drop 8 written)) (length others / 12)
        → (answer code last ≡ ran m (first ++ others) (length room))
        × (take 8 written ++ (after ++ drop (length written - 8) (drop 8 written)) ≡ ran_room m (first ++ others) room)
    joined_whole {begun = begun} written after b w l a =
        let k = length others / 12 in
        let run = ran_whole m (first ++ others) room f tested fine in
        let start = b ∙ ap (state_at m first) one in
        let front = w ∙ ap (room_at m first room) one in (
          ap (answer code) (l ∙ ap (λ x. state_at x others k) start ∙ sym (state_pieces m first others 1 twelve k)
              ∙ ap (state_at m (first ++ others)) records) ∙ run.0,
          rest_put 8 written after (λ r. room_at begun others r k) a
              ∙ ap₂ (λ x r. take 8 r ++ room_at x others (drop 8 r) k) start front
              ∙ room_pieces m first others 1 twelve room k all_fit
              ∙ ap (room_at m (first ++ others) room) records ∙ run.1,
        )

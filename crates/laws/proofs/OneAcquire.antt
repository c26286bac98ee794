-- One acquire instead of two: what a record asks for, its answer and the machine after it are what they were for every record but two kinds. 4
-- with A = 1 asks for what 5 asked for, and 5 for nothing: it is refused, and no cell is touched.
--
-- The former form test stands in specs/FormerForm.antt; `request_of` in record/specs/Record.antt, `answered` and `next` in
-- operations/specs/Asked.antt. Assumes nothing.
use mathlib.Core.Path.{◌≡◌, refl, ap}
use mathlib.Core.Bool.{false, ◌&&◌, cond}
use mathlib.Core.List.{List}
use Prim.Native.Nat.{ℕ}
use lib.Dec.{eqb}
use lib.ListN.{length}
use Rattle.error.specs.Codes.{EINVAL}
use Rattle.error.specs.Answer.{Answer, answer}
use Rattle.words.proofs.Choice.{bool_ind}
use Rattle.order.specs.Cells.{after, reply}
use Rattle.machine.specs.State.{setup_ok}
use Rattle.machine.specs.declared.Setup.{Setup}
use Rattle.machine.specs.declared.Machine.{Machine}
use Rattle.record.specs.Record.{fields_of, malformed, of_fields, request_of}
use Rattle.record.specs.declared.Request.{Request}
use Rattle.operations.specs.Cells.{machine_store}
use Rattle.operations.specs.Operations.{operation}
use Rattle.operations.specs.Asked.{answered, next}
use Rattle.laws.specs.FormerForm.{former_request, formerly_answered, formerly_next, is_five, is_nested, as_five}
use Rattle.laws.proofs.FormerRows.{same_fields, nothing_at_five, twelve_moved}

-- What bytes ask for, on a machine of setup k.
module _ (k : Setup) (bs : List ℕ) where
  -- Neither operation 5, nor 4 with A = 1: what they asked for.
  pub asks_the_same : is_five bs ≡ false → is_nested bs ≡ false → request_of k bs ≡ former_request k bs
  unfolding request_of former_request
  asks_the_same not5 plain =
      ap (λ (r : Request). cond (setup_ok k && eqb (length bs) 12) r malformed) (same_fields k.n bs not5 plain)

  -- Twelve bytes of operation 4 with A = 1: what they asked for as operation 5 with A = 0.
  pub asks_as_five : length bs ≡ 12 → (fields_of bs).operation ≡ 4 → (fields_of bs).a ≡ 1 → request_of k bs ≡ former_request k (as_five bs)
  asks_as_five = twelve_moved k bs

  -- Operation 5: nothing, whatever its other fields are.
  pub five_asks_nothing : (fields_of bs).operation ≡ 5 → request_of k bs ≡ malformed
  unfolding request_of
  five_asks_nothing five =
      bool_ind (λ t. cond t (of_fields k.n (fields_of bs)) malformed ≡ malformed) (setup_ok k && eqb (length bs) 12)
      (λ _. nothing_at_five k.n bs five) (λ _. refl)

-- The answer to a record and the machine after it, on every machine m.
module _ (m : Machine) (bs : List ℕ) where
  -- Both follow from what it asks for.
  by_request : (before : List ℕ) → request_of m.setup bs ≡ former_request m.setup before
      → (answered m bs ≡ formerly_answered m before) × (next m bs ≡ formerly_next m before)
  unfolding answered next formerly_answered formerly_next
  by_request before e = (
    ap (λ (r : Request). reply machine_store (Answer ℕ) m (operation m.setup r)) e,
    ap (λ (r : Request). after machine_store (Answer ℕ) m (operation m.setup r)) e,
  )

  pub answers_the_same : is_five bs ≡ false → is_nested bs ≡ false
      → (answered m bs ≡ formerly_answered m bs) × (next m bs ≡ formerly_next m bs)
  answers_the_same not5 plain = by_request bs (asks_the_same m.setup bs not5 plain)

  pub answers_as_five : length bs ≡ 12 → (fields_of bs).operation ≡ 4 → (fields_of bs).a ≡ 1
      → (answered m bs ≡ formerly_answered m (as_five bs)) × (next m bs ≡ formerly_next m (as_five bs))
  answers_as_five twelve four one = by_request (as_five bs) (asks_as_five m.setup bs twelve four one)

  -- EINVAL, value 0, no cell touched.
  pub five_is_refused : (fields_of bs).operation ≡ 5 → (answered m bs ≡ answer EINVAL 0) × (next m bs ≡ m)
  unfolding answered next
  five_is_refused five = let e = five_asks_nothing m.setup bs five in (rw e, rw e)

-- The answer bytes of a run tell which records were accepted. Every answer has one of the eight codes (`answered_coded` of operations); so
-- its code fits the four bytes that it is written in, and is read back from them. Assumes nothing.
use mathlib.Core.Path.{◌≡◌, refl, ap, ◌∙◌}
use mathlib.Core.Bool.{true}
use mathlib.Core.List.{List}
use Prim.Native.Nat.{ℕ, ◌/◌, ◌<◌}
use lib.Dec.{lit<}
use lib.IntN.{ℤ}
use lib.ListN.{length}
use Rattle.error.specs.Codes.{number_of, is_ok}
use Rattle.std.specs.Prelude.{Result, Ok, Err}
use Rattle.error.specs.declared.Refusal.{Refusal}
use Rattle.error.specs.declared.Refusal.TheVariants.{Eperm, Enomem, Ebusy, Einval, Edeadlk, Ealready, Eoverflow}
use Rattle.answers.specs.Answer.{decode_answer}
use Rattle.answers.proofs.Laws.{code_back}
use Rattle.words.specs.Signed.{SignedFits}
use Rattle.machine.specs.declared.Machine.{Machine}
use Rattle.operations.specs.Asked.{answered}
use Rattle.operations.specs.Log.{record_at, state_at, answer_at}
use Rattle.operations.proofs.Codes.{EachCode, answered_coded}
use Rattle.runner.specs.Run.{ran, ran_room}
use Rattle.rearranged.proofs.Bytes.{place_of_run}
use Rattle.ledger.specs.Ledger.{accepted_at}

-- One of the eight codes.
pub record IsCode (number : ℤ) : Type 0 where
  pub code : Result (Unit {0}) Refusal
  pub is : number_of code ≡ number

is_code : (c : Result (Unit {0}) Refusal) → IsCode (number_of c)
is_code c = record { code = c; is = refl }

each_is_code : EachCode IsCode
each_is_code =
    record {
      ok = is_code (Ok tt);
      perm = is_code (Err Eperm);
      busy = is_code (Err Ebusy);
      invalid = is_code (Err Einval);
      already = is_code (Err Ealready);
    }

-- The eight fit in 32 bits, two's complement.
number_fits : (c : Result (Unit {0}) Refusal) → SignedFits 31 (number_of c)
number_fits (Ok done) = lit< tt
number_fits (Err Eperm) = lit< tt
number_fits (Err Enomem) = lit< tt
number_fits (Err Ebusy) = lit< tt
number_fits (Err Einval) = lit< tt
number_fits (Err Edeadlk) = lit< tt
number_fits (Err Ealready) = lit< tt
number_fits (Err Eoverflow) = lit< tt

answered_fits : (m : Machine) (bytes : List ℕ) → SignedFits 31 (answered m bytes).code
answered_fits m bytes = let c = answered_coded IsCode each_is_code m bytes (λ _. is_code (Err Edeadlk)) in rw c.is at (number_fits c.code)

-- After a run, the answer bytes say of each record whether its answer was OK.
pub bytes_tell : (m : Machine) (log room : List ℕ) → is_ok (ran m log (length room)).code ≡ true → (k : ℕ) → k < length log / 12
    → accepted_at (ran_room m log room) k ≡ is_ok (answer_at m log k).code
bytes_tell m log room ok k h =
    ap (λ bs. is_ok (decode_answer bs).code) (place_of_run m log room ok k h)
    ∙ ap is_ok (code_back (answer_at m log k).code (answer_at m log k).value (answered_fits (state_at m log k) (record_at log k)))

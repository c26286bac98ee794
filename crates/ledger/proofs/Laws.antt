-- Demand 3, the ledger, from any well-formed machine: each record keeps the books, and so does a log, record by record. The answer bytes tell
-- which records were accepted. Assumes nothing.
use mathlib.Core.Path.{◌≡◌, refl, ap, ◌∙◌}
use mathlib.Core.Bool.{true}
use mathlib.Core.List.{List}
use Prim.Native.Nat.{ℕ, zero, suc, ◌/◌, ◌≤◌, ◌<◌}
use native.Mathlib.Omega.{arith}
use lib.ListN.{length}
use Rattle.error.specs.Codes.{is_ok}
use Rattle.error.specs.Answer.{Answer}
use Rattle.order.proofs.Commute.{after_shape}
use Rattle.machine.specs.declared.Machine.{Machine}
use Rattle.wellformed.specs.WellFormed.{well_formed}
use Rattle.wellformed.proofs.Facts.{says}
use Rattle.operations.specs.Cells.{machine_store}
use Rattle.operations.specs.Asked.{asked, next}
use Rattle.operations.specs.Log.{record_at, state_at, answer_at}
use Rattle.runner.specs.Run.{ran, ran_room}
use Rattle.operations.proofs.Lengths.{Lengths}
use Rattle.kept.proofs.Laws.{states_keep}
use Rattle.rearranged.proofs.MachineStore.{Shape, shape, machine_laws}
use Rattle.ledger.specs.Ledger.{Book, accepted_at, Stand, stand_after, Balanced, opening_of, InBooks}
use Rattle.ledger.proofs.Answers.{bytes_tell}
use Rattle.ledger.proofs.Stands.{Stands, opening_stands}
use Rattle.ledger.proofs.Records.{record_books}

-- The setup stays.
states_setup : (m : Machine) (log : List ℕ) (k : ℕ) → (state_at m log k).setup ≡ m.setup
unfolding state_at next
states_setup m log zero = refl
states_setup m log (suc k) =
    ap (λ x. x.setup) (after_shape machine_store (Answer ℕ) Shape shape machine_laws (asked (state_at m log k) (record_at log k)) (state_at m log k))
    ∙ states_setup m log k

-- The answer bytes tell which of the first `count` records were accepted.
abbrev pub Tell : Machine → List ℕ → List ℕ → ℕ → Type 0
Tell m log answers count = (k : ℕ) → k < count → accepted_at answers k ≡ is_ok (answer_at m log k).code

-- Where they do, the books are kept from record to record: a stand that is the machine's at the start goes on to be. This is so of a log of any
-- length, also of one that is too long to run.
pub records_books : (m : Machine) → Lengths m → well_formed m ≡ true → (log answers : List ℕ) (count : ℕ) → Tell m log answers count
    → (k : ℕ) → k ≤ count → (book : Book) → InBooks book → (opening : Stand) → Stands m book opening
    → Stands (state_at m log k) book (stand_after book m.setup log answers opening k)
unfolding state_at stand_after
records_books m s good log answers count tell zero h book b opening start = start
records_books m s good log answers count tell (suc k) h book b opening start =
    let before = records_books m s good log answers count tell k (omega arith) book b opening start in
    let kept = states_keep m s log k good in
    let one = record_books (state_at m log k) kept.0 (says (state_at m log k) kept.1) (record_at log k) book b _ before in
    rw (states_setup m log k, ← tell k (omega arith)) at one

-- From any well-formed machine that runs a log, after every prefix, from the machine's own opening stand: what a book's owner has then and the
-- releases are together the acquires.
pub ledger_from : (m : Machine) → Lengths m → well_formed m ≡ true → (log room : List ℕ) → is_ok (ran m log (length room)).code ≡ true
    → (k : ℕ) → k ≤ length log / 12 → (book : Book) → InBooks book
    → Balanced (state_at m log k) book (stand_after book m.setup log (ran_room m log room) (opening_of m book) k)
ledger_from m s good log room ok k h book b =
    (records_books m s good log (ran_room m log room) (length log / 12) (bytes_tell m log room ok) k h book b (opening_of m book)
    (opening_stands m (says m good) book b)).total

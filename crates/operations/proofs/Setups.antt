-- No record changes a machine's setup: every cell's new value leaves it. Assumes nothing.
use mathlib.Core.Path.{◌≡◌, refl, ◌∙◌}
use mathlib.Core.List.{List, [], ◌∷◌}
use Prim.Native.Nat.{ℕ, zero, suc}
use Rattle.error.specs.Answer.{Answer}
use Rattle.order.specs.Outcome.{Outcome, refuse, accept}
use Rattle.order.specs.Cells.{Op, Vals, store, result, commit, after}
use Rattle.machine.specs.declared.Machine.{Machine}
use Rattle.operations.specs.Cells.{Cell, run, hold, thread, lock, Val, put, machine_store}
use Rattle.operations.specs.Asked.{asked, next}
use Rattle.operations.specs.Log.{record_at, state_at}

put_setup : (c : Cell) (v : Val c) (m : Machine) → (put c v m).setup ≡ m.setup
put_setup (run c) v m = refl
put_setup (hold c) v m = refl
put_setup (thread t) v m = refl
put_setup (lock l) v m = refl

store_setup : (cs : List Cell) (vs : Vals machine_store cs) (m : Machine) → (store machine_store cs vs m).setup ≡ m.setup
store_setup [] vs m = refl
store_setup (c ∷ cs) vs m = put_setup c vs.0 (store machine_store cs vs.1 m) ∙ store_setup cs vs.1 m

commit_setup : (cs : List Cell) (o : Outcome (Answer ℕ) (Vals machine_store cs)) (m : Machine)
    → (commit machine_store (Answer ℕ) cs o m).setup ≡ m.setup
commit_setup cs (refuse a) m = refl
commit_setup cs (accept a vs) m = store_setup cs vs m

-- No operation changes the setup, and so no record does.
pub after_setup : (m : Machine) (o : Op machine_store (Answer ℕ)) → (after machine_store (Answer ℕ) m o).setup ≡ m.setup
after_setup m o = commit_setup o.writes (result machine_store (Answer ℕ) o m) m

pub next_setup : (m : Machine) (bytes : List ℕ) → (next m bytes).setup ≡ m.setup
unfolding next
next_setup m bytes = after_setup m (asked m bytes)

-- So the first k records of a log leave it.
pub state_setup : (m : Machine) (log : List ℕ) (k : ℕ) → (state_at m log k).setup ≡ m.setup
unfolding state_at
state_setup m log zero = refl
state_setup m log (suc k) = next_setup (state_at m log k) (record_at log k) ∙ state_setup m log k

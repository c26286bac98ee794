-- The machine is a store of its cells: a stored cell leaves the others, and machines of one shape with the same cells are equal.
-- Assumes nothing.
use mathlib.Core.Path.{◌≡◌, refl, ap}
use mathlib.Core.Logic.{◌≢◌}
use mathlib.Core.List.{List, [], ◌∷◌}
use Prim.Native.Nat.{ℕ, zero, suc}
use native.Mathlib.Omega.{arith}
use native.Mathlib.Decide.{ℕ_discrete}
use lib.ListN.{length, get_or, set, length-set}
use lib.Seq.{get_or-set_other, ext_get_or}
use Rattle.machine.specs.State.{no_cpu, no_thread, free_lock}
use Rattle.machine.specs.declared.Setup.{Setup}
use Rattle.machine.specs.declared.Cpu.{Cpu}
use Rattle.machine.specs.declared.Machine.{Machine}
use Rattle.operations.specs.Cells.{Cell, run, hold, thread, lock, Cell-discrete, Val, get, put, machine_store}
use Rattle.order.proofs.Commute.{Laws}

-- What no operation changes.
pub record Shape : Type 0 where
  pub setup : Setup
  pub cpus : ℕ
  pub threads : ℕ
  pub locks : ℕ

abbrev pub shape : Machine → Shape
shape m =
    record { setup = m.setup; cpus = length m.cpus; threads = length m.threads; locks = length m.locks }

module _ {A B : Type 0} (part : A → B) (d : A) where
  -- A part that the new element shares with the old is the same everywhere.
  part_kept : (xs : List A) (j i : ℕ) (y : A) → part y ≡ part (get_or xs j d) → part (get_or (set xs j y) i d) ≡ part (get_or xs i d)
  part_kept [] j i y e = refl
  part_kept (x ∷ xs) zero zero y e = e
  part_kept (x ∷ xs) zero (suc i) y e = refl
  part_kept (x ∷ xs) (suc j) zero y e = refl
  part_kept (x ∷ xs) (suc j) (suc i) y e = part_kept xs j i y e

  -- A part that is stored in two lists of one length is the same in both.
  part_stored : (xs ys : List A) (i : ℕ) (y z : A) → length xs ≡ length ys → part y ≡ part z
      → part (get_or (set xs i y) i d) ≡ part (get_or (set ys i z) i d)
  part_stored [] [] i y z h e = refl
  part_stored [] (w ∷ ys) i y z h e = absurd (omega arith)
  part_stored (x ∷ xs) [] i y z h e = absurd (omega arith)
  part_stored (x ∷ xs) (w ∷ ys) zero y z h e = e
  part_stored (x ∷ xs) (w ∷ ys) (suc i) y z h e = part_stored xs ys i y z (omega arith) e

get_other : (c b : Cell) (v : Val b) (m : Machine) → c ≢ b → get c (put b v m) ≡ get c m
get_other (run i) (run j) v m other = ap {A = Cpu} (λ c. c.run) (get_or-set_other m.cpus j i _ no_cpu (λ e. other (ap run e)))
get_other (run i) (hold j) v m other = part_kept (λ c. c.run) no_cpu m.cpus j i _ refl
get_other (run i) (thread j) v m other = refl
get_other (run i) (lock j) v m other = refl
get_other (hold i) (run j) v m other = part_kept (λ c. c.hold) no_cpu m.cpus j i _ refl
get_other (hold i) (hold j) v m other = ap {A = Cpu} (λ c. c.hold) (get_or-set_other m.cpus j i _ no_cpu (λ e. other (ap hold e)))
get_other (hold i) (thread j) v m other = refl
get_other (hold i) (lock j) v m other = refl
get_other (thread i) (run j) v m other = refl
get_other (thread i) (hold j) v m other = refl
get_other (thread i) (thread j) v m other = get_or-set_other m.threads j i v no_thread (λ e. other (ap thread e))
get_other (thread i) (lock j) v m other = refl
get_other (lock i) (run j) v m other = refl
get_other (lock i) (hold j) v m other = refl
get_other (lock i) (thread j) v m other = refl
get_other (lock i) (lock j) v m other = get_or-set_other m.locks j i v free_lock (λ e. other (ap lock e))

get_same : (c : Cell) (v : Val c) (m n : Machine) → shape m ≡ shape n → get c (put c v m) ≡ get c (put c v n)
get_same (run i) v m n s = part_stored (λ c. c.run) no_cpu m.cpus n.cpus i _ _ (ap (λ h. h.cpus) s) refl
get_same (hold i) v m n s = part_stored (λ c. c.hold) no_cpu m.cpus n.cpus i _ _ (ap (λ h. h.cpus) s) refl
get_same (thread i) v m n s = part_stored (λ t. t) no_thread m.threads n.threads i _ _ (ap (λ h. h.threads) s) refl
get_same (lock i) v m n s = part_stored (λ l. l) free_lock m.locks n.locks i _ _ (ap (λ h. h.locks) s) refl

put_shape : (c : Cell) (v : Val c) (m : Machine) → shape (put c v m) ≡ shape m
put_shape (run i) v m = simp length-set
put_shape (hold i) v m = simp length-set
put_shape (thread i) v m = simp length-set
put_shape (lock i) v m = simp length-set

cpu_equal : (a b : Cpu) → a.run ≡ b.run → a.hold ≡ b.hold → a ≡ b
cpu_equal a b p q = λ i. record { run = p i; hold = q i }

equal : (m n : Machine) → shape m ≡ shape n → ((c : Cell) → get c m ≡ get c n) → m ≡ n
equal m n s e =
    λ i. record { setup = (s i).setup; cpus = same_cpus i; threads = same_threads i; locks = same_locks i }
  where
    same_cpus : m.cpus ≡ n.cpus
    same_cpus = ext_get_or no_cpu m.cpus n.cpus (ap (λ h. h.cpus) s) (λ i b. cpu_equal _ _ (e (run i)) (e (hold i)))

    same_threads : m.threads ≡ n.threads
    same_threads = ext_get_or no_thread m.threads n.threads (ap (λ h. h.threads) s) (λ i b. e (thread i))

    same_locks : m.locks ≡ n.locks
    same_locks = ext_get_or free_lock m.locks n.locks (ap (λ h. h.locks) s) (λ i b. e (lock i))

pub machine_laws : Laws machine_store Shape shape
machine_laws =
    record {
      same_cell = Cell-discrete ℕ_discrete;
      put_shape = put_shape;
      get_other = get_other;
      get_same = get_same;
      equal = equal;
    }

-- When a stand is a machine's: it balances, and while a lock is held the last accepted acquire came from the CPU in its word. So an unwind by
-- that CPU, which frees the lock, closes its book, and no other unwind does. Assumes nothing.
use Rattle.std.specs.Prelude.{Option, None, Some}
use mathlib.Core.Path.{◌≡◌, refl}
use mathlib.Core.Bool.{Bool}
use Prim.Native.Nat.{ℕ, ◌<◌}
use native.Mathlib.Nat.{add-zero}
use native.Mathlib.Omega.{arith}
use borrow.Author.Tests.{ne_eqb}
use Rattle.machine.specs.State.{lock_count, lock_at}
use Rattle.machine.specs.declared.Machine.{Machine}
use Rattle.wellformed.proofs.Facts.{WellFormed}
use Rattle.kept.proofs.Depths.{held_word}
use Rattle.ledger.specs.Ledger.{Call, Book, ofLock, ofCpu, Last, Stand, settled, balance, Balanced, opening_of, InBooks}
use Rattle.ledger.proofs.Moves.{LastIn}

-- Who acquired last, as a book's owner shows it.
abbrev pub LastIs : Machine → Book → Last → Type 0
LastIs m (ofLock l) by = LastIn m (lock_at m l) by
LastIs m (ofCpu c) by = Unit {0}

pub record Stands (m : Machine) (book : Book) (stand : Stand) : Type 0 where
  pub total : Balanced m book stand
  pub last : LastIs m book stand.by

-- One record keeps the books: a stand that is the machine's is then the next machine's.
abbrev pub Kept : Machine → Machine → Bool → Call → Type 0
Kept m then accepted call =
    (book : Book) → InBooks book → (stand : Stand) → Stands m book stand → Stands then book (settled book accepted call stand)

module _ (m : Machine) (w : WellFormed m) (l : ℕ) (hl : l < lock_count) where
  -- A lock that is held has a word, and a lock with a word is held.
  pub depth_word : 0 < (lock_at m l).state.nest_count → (lock_at m l).word ≡ 0 → ⊥
  depth_word deep = go (lock_at m l).state.owner refl
    where
      go : (o : Option ℕ) → (lock_at m l).state.owner ≡ o → (lock_at m l).word ≡ 0 → ⊥
      go None e = let none = ((w.locks l hl).free e).depth in absurd (omega arith)
      go (Some t) e = held_word m.setup (lock_at m l) t ((w.locks l hl).held t e)

  pub word_depth : ((lock_at m l).word ≡ 0 → ⊥) → 0 < (lock_at m l).state.nest_count
  word_depth some = go (lock_at m l).state.owner refl
    where
      go : (o : Option ℕ) → (lock_at m l).state.owner ≡ o → 0 < (lock_at m l).state.nest_count
      go None e = absurd (some ((w.locks l hl).free e).word)
      go (Some t) e = ((w.locks l hl).held t e).some

-- The opening stand is the machine's.
pub opening_stands : (m : Machine) → WellFormed m → (book : Book) → InBooks book → Stands m book (opening_of m book)
opening_stands m w (ofLock l) h =
    record { total = add-zero (balance m (ofLock l)); last = λ deep. rw (ne_eqb (lock_at m l).word 0 (depth_word m w l h deep)) }
opening_stands m w (ofCpu c) h = record { total = add-zero (balance m (ofCpu c)); last = tt }

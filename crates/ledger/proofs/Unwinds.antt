-- An unwind keeps the books: the book of each lock whose word names the CPU is closed, and so is the CPU's own; every other stays, since its lock's
-- last accepted acquire came from elsewhere, or it stands at nothing. Assumes nothing.
use mathlib.Core.Path.{◌≡◌, refl, sym, ap, ◌∙◌}
use mathlib.Core.Logic.{◌⊎◌, inl, inr}
use mathlib.Core.Bool.{Bool, true, false, cond, not, false≢true}
use Prim.Native.Nat.{ℕ, ◌+◌, ◌≤◌, ◌<◌}
use native.Mathlib.Omega.{arith}
use lib.Dec.{eqb}
use borrow.Author.Tests.{eqb-true, eqb-false, not-true, eq-eqb, ne_eqb}
use Rattle.error.specs.Codes.{is_ok}
use Rattle.error.specs.Answer.{Answer}
use Rattle.words.specs.Tag.{cpu_of}
use Rattle.words.proofs.Choice.{bool_ind, same_or, below_or, and_left, and_right}
use Rattle.order.specs.Cells.{after, reply}
use Rattle.machine.specs.State.{lock_count, tag_bits, names, is_current, cpu_at, lock_at}
use Rattle.machine.specs.declared.Cpu.{Cpu}
use Rattle.machine.specs.declared.Lock.{Lock}
use Rattle.machine.specs.declared.Machine.{Machine}
use Rattle.wellformed.proofs.Facts.{WellFormed}
use Rattle.operations.specs.Cells.{machine_store}
use Rattle.operations.specs.Operations.{unwinding}
use Rattle.operations.proofs.Lengths.{Lengths}
use Rattle.operations.proofs.Unwound.{unwound_machine, refused_reply, refused_after, accepted_reply, accepted_after}
use Rattle.kept.proofs.Unwinds.{back_cases, unwound_cpus, unwound_lock}
use Rattle.ledger.specs.Ledger.{unwound, Book, ofLock, ofCpu, Last, nobody, from, is_from, Stand, stood, posted, settled, InBooks}
use Rattle.ledger.proofs.Stands.{Stands, Kept, depth_word, word_depth}

from_names : (by : Last) (c : ℕ) → is_from by c ≡ true → by ≡ from c
from_names nobody c e = absurd (false≢true e)
from_names (from d) c e = ap from (eqb-true d c e)

same_from : {c d : ℕ} → from c ≡ from d → c ≡ d
same_from e = cc

module _ (m : Machine) (s : Lengths m) (w : WellFormed m) (c : ℕ) (hc : c < m.setup.n) where
  -- What a lock's book counts with the releases of the unwind, at a depth.
  abbrev Counts : Stand → ℕ → Bool → Type 0
  Counts stand depth closing = depth + (stand.releases + cond closing (stood stand) 0) ≡ stand.acquires

  module _ (l : ℕ) (hl : l < lock_count) (stand : Stand) (is : Stands m (ofLock l) stand) where
    abbrev depth : ℕ
    depth = (lock_at m l).state.nest_count

    total : depth + stand.releases ≡ stand.acquires
    total = is.total

    -- A lock of the CPU: it came from there, and its book is closed.
    closed : names m.setup (lock_at m l).word c ≡ true → Counts stand 0 (is_from stand.by c)
    closed named =
        let word = (lock_at m l).word in
        let some = eqb-false word 0 (not-true (eqb word 0) (and_left (not (eqb word 0)) _ named)) in
        let cpu = eqb-true (cpu_of (tag_bits m.setup) word) c (and_right (not (eqb word 0)) _ named) in
        let by : stand.by ≡ from c = is.last (word_depth m w l hl some) ∙ ap from cpu in
        let before = total in
        rw (by, eq-eqb c c refl) (omega arith)

    -- Another lock: it came from elsewhere, or stands at nothing.
    other : names m.setup (lock_at m l).word c ≡ false → Counts stand depth (is_from stand.by c)
    other elsewhere =
        let before = total in
        bool_ind (Counts stand depth) (is_from stand.by c) (λ e. go (from_names stand.by c e) (below_or 0 depth)) (λ _. omega arith)
      where
        go : stand.by ≡ from c → (0 < depth) ⊎ (depth ≤ 0) → Counts stand depth true
        go by (inl deep) =
            let cpu : cpu_of (tag_bits m.setup) (lock_at m l).word ≡ c = same_from (sym (is.last deep) ∙ by) in
            let yes : names m.setup (lock_at m l).word c ≡ true =
            rw (ne_eqb (lock_at m l).word 0 (depth_word m w l hl deep), eq-eqb (cpu_of (tag_bits m.setup) (lock_at m l).word) c cpu) in
            absurd (false≢true (sym elsewhere ∙ yes))
        go by (inr none) = let before = total in omega arith

    lock_books : Stands (unwound_machine m c) (ofLock l) (posted (ofLock l) (unwound c) stand)
    lock_books =
        let same = unwound_lock m s w c hc l in
        record {
          total = ap (λ (x : Lock). x.state.nest_count + (stand.releases + cond (is_from stand.by c) (stood stand) 0)) same
              ∙ back_cases m.setup c (lock_at m l) (λ x. Counts stand x.state.nest_count (is_from stand.by c)) closed other;
          last = λ deep.
              back_cases m.setup c (lock_at m l) (λ x. 0 < x.state.nest_count → stand.by ≡ from (cpu_of (tag_bits m.setup) x.word))
              (λ _ none. absurd (omega arith)) (λ _. is.last) (rw same at deep)
              ∙ ap (λ (x : Lock). from (cpu_of (tag_bits m.setup) x.word)) (sym same);
        }

  cpu_books : (d : ℕ) (stand : Stand) → Stands m (ofCpu d) stand → Stands (unwound_machine m c) (ofCpu d) (posted (ofCpu d) (unwound c) stand)
  cpu_books d stand is = go (same_or d c)
    where
      go : (d ≡ c) ⊎ (d ≡ c → ⊥) → Stands (unwound_machine m c) (ofCpu d) (posted (ofCpu d) (unwound c) stand)
      go (inl e) =
          let none : (cpu_at (unwound_machine m c) c).hold ≡ 0 = ap (λ (x : Cpu). x.hold) (unwound_cpus m s w c hc).there in
          let before : (cpu_at m c).hold + stand.releases ≡ stand.acquires = ap (λ (i : ℕ). (cpu_at m i).hold + stand.releases) (sym e) ∙ is.total in
          rw e (record { total = rw (eq-eqb c c refl) (omega arith); last = tt })
      go (inr other) =
          let same : (cpu_at (unwound_machine m c) d).hold ≡ (cpu_at m d).hold = ap (λ (x : Cpu). x.hold) ((unwound_cpus m s w c hc).elsewhere d other) in
          let before : (cpu_at m d).hold + stand.releases ≡ stand.acquires = is.total in
          record { total = rw (ne_eqb c d (λ e. other (sym e))) (omega arith); last = tt }

  accepted_books : (book : Book) → InBooks book → (stand : Stand) → Stands m book stand
      → Stands (unwound_machine m c) book (posted book (unwound c) stand)
  accepted_books (ofLock l) h stand is = lock_books l h stand is
  accepted_books (ofCpu d) h stand is = cpu_books d stand is

-- Accepted or refused, it keeps the books.
pub unwind_books : (m : Machine) → Lengths m → WellFormed m → (c t : ℕ) → c < m.setup.n
    → Kept m (after machine_store (Answer ℕ) m (unwinding m.setup c t)) (is_ok (reply machine_store (Answer ℕ) m (unwinding m.setup c t)).code) (unwound c)
unwind_books m s w c t hc book h stand is = go (is_current (cpu_at m c).run.current t) refl
  where
    go : (b : Bool) → is_current (cpu_at m c).run.current t ≡ b
        → Stands (after machine_store (Answer ℕ) m (unwinding m.setup c t)) book
        (settled book (is_ok (reply machine_store (Answer ℕ) m (unwinding m.setup c t)).code) (unwound c) stand)
    go true e = rw (accepted_after m c t s.locks e, accepted_reply m c t s.locks e) (accepted_books m s w c hc book h stand is)
    go false e = rw (refused_after m c t s.locks e, refused_reply m c t s.locks e) is

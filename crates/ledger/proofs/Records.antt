-- Each record keeps the books: an accepted acquire or release moves its lock's depth and its CPU's hold by one, an unwind closes books
-- (Unwinds), and everything else leaves them. By the operation's family. Assumes nothing.
use mathlib.Core.Path.{◌≡◌, refl, ap, ap₂, sym, ◌∙◌}
use mathlib.Core.Logic.{◌≢◌}
use mathlib.Core.Bool.{Bool, true, false}
use mathlib.Core.List.{List, [], ◌∷◌}
use Prim.Native.Nat.{ℕ, ◌+◌, ◌<◌}
use native.Mathlib.Omega.{arith}
use native.Mathlib.Decide.{ℕ_discrete}
use borrow.Author.Tests.{eq-eqb, ne_eqb}
use Rattle.error.specs.Codes.{is_ok}
use Rattle.error.specs.Answer.{Answer}
use Rattle.spinlock.specs.declared.Operation.{Operation as LockOperation}
use Rattle.order.specs.Outcome.{Outcome, refuse, accept, answer_of}
use Rattle.order.specs.Cells.{Op, commit, after, reply}
use Rattle.order.specs.Clash.{In, here, there}
use Rattle.order.proofs.Commute.{after_other}
use Rattle.words.specs.Tag.{cpu_of}
use Rattle.machine.specs.State.{cpu_slots, lock_count, tag_bits, cpu_at, lock_at}
use Rattle.machine.specs.declared.Setup.{Setup}
use Rattle.machine.specs.declared.Cpu.{Cpu}
use Rattle.machine.specs.declared.Lock.{Lock}
use Rattle.machine.specs.declared.Machine.{Machine}
use Rattle.record.specs.Record.{request_of}
use Rattle.record.specs.declared.CpuOperation.{CpuOperation}
use Rattle.record.specs.declared.ThreadOperation.{ThreadOperation}
use Rattle.record.specs.declared.Operation.{Operation}
use Rattle.rules.specs.Rules as Rules
use Rattle.wellformed.proofs.Facts.{WellFormed}
use Rattle.operations.specs.Cells.{Cell, run, hold, thread, lock, machine_store}
use Rattle.operations.specs.Operations.{with_hold, on_cpu, on_lock, on_thread, operation_by}
use Rattle.operations.specs.Asked.{answered, next}
use Rattle.operations.proofs.Lengths.{Lengths}
use Rattle.operations.proofs.Setups.{after_setup}
use Rattle.kept.proofs.Ranges.{asks_in_range}
use Rattle.kept.proofs.Stored.{cpu_there, cpu_elsewhere, lock_there, lock_elsewhere}
use Rattle.rearranged.proofs.MachineStore.{Shape, shape, machine_laws}
use Rattle.ledger.specs.Ledger.{
  kind_of,
  Call,
  called,
  other,
  call_by,
  call_of,
  Book,
  ofLock,
  ofCpu,
  mine,
  up,
  down,
  from,
  Stand,
  posted,
  settled,
  balance,
  Balanced,
}
use Rattle.kept.proofs.Walk.{Told}
use Rattle.ledger.proofs.Moves.{Moves, lock_told}
use Rattle.ledger.proofs.Stands.{Stands, Kept}
use Rattle.ledger.proofs.Unwinds.{unwind_books}

-- The cell in which a book's balance stands.
abbrev cell_of : Book → Cell
cell_of (ofLock l) = lock l
cell_of (ofCpu c) = hold c

abbrev doing : Machine → Op machine_store (Answer ℕ) → Machine
doing m o = after machine_store (Answer ℕ) m o

-- An operation that does not write the cell leaves the stand.
stays : (m : Machine) (o : Op machine_store (Answer ℕ)) (book : Book) → ¬ (In (cell_of book) o.writes) → (stand : Stand) → Stands m book stand
    → Stands (doing m o) book stand
stays m o (ofLock l) out stand is =
    let same : lock_at (doing m o) l ≡ lock_at m l = after_other machine_store (Answer ℕ) Shape shape machine_laws (lock l) o m out in
    record {
      total = ap (λ (x : Lock). x.state.nest_count + stand.releases) same ∙ is.total;
      last = λ deep. is.last (rw same at deep)
          ∙ ap₂ (λ (k : Setup) (x : Lock). from (cpu_of (tag_bits k) x.word)) (sym (after_setup m o)) (sym same);
    }
stays m o (ofCpu c) out stand is =
    let same : (cpu_at (doing m o) c).hold ≡ (cpu_at m c).hold = after_other machine_store (Answer ℕ) Shape shape machine_laws (hold c) o m out in
    record { total = ap (λ (h : ℕ). h + stand.releases) same ∙ is.total; last = tt }

-- No book stands in a run cell or a thread.
not_run : (book : Book) (c : ℕ) → cell_of book ≢ run c
not_run (ofLock l) c e = let z : ◌≡◌ {A = ℕ} 0 1 = cc in omega arith
not_run (ofCpu d) c e = let z : ◌≡◌ {A = ℕ} 0 1 = cc in omega arith

not_thread : (book : Book) (t : ℕ) → cell_of book ≢ thread t
not_thread (ofLock l) t e = let z : ◌≡◌ {A = ℕ} 0 1 = cc in omega arith
not_thread (ofCpu d) t e = let z : ◌≡◌ {A = ℕ} 0 1 = cc in omega arith

no_cell : {c : Cell} → In c [] → ⊥
no_cell i = elim i [ ]

only : {c d : Cell} → c ≢ d → In c (d ∷ []) → ⊥
only n (here e) = n e
only n (there i) = no_cell i

neither : {c d e : Cell} → c ≢ d → c ≢ e → In c (d ∷ e ∷ []) → ⊥
neither n k (here e) = n e
neither n k (there i) = only k i

-- What is no call of a lock is posted to no book, accepted or not.
not_posted : (book : Book) (accepted : Bool) (stand : Stand) → settled book accepted other stand ≡ stand
not_posted book true stand = refl
not_posted book false stand = refl

-- So a record that asks for something else keeps them.
aside : (m : Machine) (o : Op machine_store (Answer ℕ)) → ((book : Book) → ¬ (In (cell_of book) o.writes))
    → Kept m (doing m o) (is_ok (reply machine_store (Answer ℕ) m o).code) other
aside m o out book b stand before =
    rw (not_posted book (is_ok (reply machine_store (Answer ℕ) m o).code) stand) (stays m o book (out book) stand before)

-- A call of lock k by CPU c keeps the books.
module _ (m : Machine) (s : Lengths m) (op : LockOperation) (c k : ℕ) (hc : c < cpu_slots) (hk : k < lock_count) where
  abbrev stored : Outcome (Answer ℕ) Lock → Machine
  stored o = commit machine_store (Answer ℕ) (lock k ∷ hold c ∷ []) (with_hold op (cpu_at m c).hold o) m

  -- The book's balance moves with the call, and the call is posted to it; or neither.
  moved_with : (book : Book) (later : Machine) (stand : Stand) → mine book c k ≡ true
      → balance later book + down (kind_of op) ≡ balance m book + up (kind_of op) → Balanced m book stand
      → Balanced later book (posted book (called (kind_of op) c k) stand)
  moved_with book later stand own moves before = rw own (omega (arith, moves, before))

  stays_with : (book : Book) (later : Machine) (stand : Stand) → mine book c k ≡ false → balance later book ≡ balance m book → Balanced m book stand
      → Balanced later book (posted book (called (kind_of op) c k) stand)
  stays_with book later stand others same before = rw (others, same) before

  -- The lock that is called: its depth moves, and who acquired last is told on.
  called_lock : (v : Lock) (a : Answer ℕ) → Moves m op c k v → (stand : Stand) → Stands m (ofLock k) stand
      → Stands (stored (accept a v)) (ofLock k) (posted (ofLock k) (called (kind_of op) c k) stand)
  called_lock v a moves stand is =
      let here : lock_at (stored (accept a v)) k ≡ v = lock_there m s k v hk in
      let own = eq-eqb k k refl in
      record {
        total = moved_with (ofLock k) (stored (accept a v)) stand own
            (ap (λ (x : Lock). x.state.nest_count + down (kind_of op)) here ∙ moves.depth) is.total;
        last = λ deep.
            rw own (moves.last stand.by is.last (rw here at deep))
            ∙ ap (λ (x : Lock). from (cpu_of (tag_bits m.setup) x.word)) (sym here);
      }

  other_lock : (l : ℕ) (v : Lock) (a : Answer ℕ) → (l ≡ k → ⊥) → (stand : Stand) → Stands m (ofLock l) stand
      → Stands (stored (accept a v)) (ofLock l) (posted (ofLock l) (called (kind_of op) c k) stand)
  other_lock l v a differs stand is =
      let same : lock_at (stored (accept a v)) l ≡ lock_at m l = lock_elsewhere m k v l differs in
      rw (ne_eqb k l (λ e. differs (sym e)))
      (record {
        total = ap (λ (x : Lock). x.state.nest_count + stand.releases) same ∙ is.total;
        last = λ deep. is.last (rw same at deep) ∙ ap (λ (x : Lock). from (cpu_of (tag_bits m.setup) x.word)) (sym same);
      })

  posted_kept : (book : Book) (v : Lock) (a : Answer ℕ) → Moves m op c k v → (stand : Stand) → Stands m book stand
      → Stands (stored (accept a v)) book (posted book (called (kind_of op) c k) stand)
  posted_kept (ofLock l) v a moves stand before = go (ℕ_discrete l k)
    where
      go : Dec (l ≡ k) → Stands (stored (accept a v)) (ofLock l) (posted (ofLock l) (called (kind_of op) c k) stand)
      go (yes e) = rw e (called_lock v a moves stand (rw e at before))
      go (no differs) = other_lock l v a differs stand before
  posted_kept (ofCpu d) v a moves stand before = go (ℕ_discrete d c)
    where
      go : Dec (d ≡ c) → Stands (stored (accept a v)) (ofCpu d) (posted (ofCpu d) (called (kind_of op) c k) stand)
      go (yes e) =
          let now : balance (stored (accept a v)) (ofCpu d) ≡ Rules.moved op (cpu_at m c).hold =
          rw e (ap (λ (x : Cpu). x.hold) (cpu_there m s c _ hc)) in
          record {
            total = moved_with (ofCpu d) (stored (accept a v)) stand (eq-eqb c d (sym e))
                (ap (λ n. n + down (kind_of op)) now ∙ moves.hold ∙ ap (λ i. (cpu_at m i).hold + up (kind_of op)) (sym e)) before.total;
            last = tt;
          }
      go (no differs) =
          record {
            total = stays_with (ofCpu d) (stored (accept a v)) stand (ne_eqb c d (λ e. differs (sym e)))
                (ap (λ (x : Cpu). x.hold) (cpu_elsewhere m c _ d differs)) before.total;
            last = tt;
          }

  call_kept : (o : Outcome (Answer ℕ) Lock) → Told (Moves m op c k) o
      → Kept m (stored o) (is_ok (answer_of (with_hold op (cpu_at m c).hold o)).code) (called (kind_of op) c k)
  call_kept (refuse a) no_Ok book b stand before = rw no_Ok before
  call_kept (accept a v) told book b stand before = rw told.0 (posted_kept book v a told.1 stand before)

-- An operation on a CPU or a thread writes no cell of a book.
cpu_outside : (op : CpuOperation) (c t : ℕ) (book : Book) → ¬ (In (cell_of book) (on_cpu op c t).writes)
cpu_outside CpuOperation.Up c t book = only (not_run book c)
cpu_outside CpuOperation.Down c t book = only (not_run book c)
cpu_outside CpuOperation.Put c t book = neither (not_run book c) (not_thread book t)
cpu_outside CpuOperation.Take c t book = neither (not_run book c) (not_thread book t)

thread_outside : (s : Setup) (op : ThreadOperation) (c t : ℕ) (book : Book) → ¬ (In (cell_of book) (on_thread s op c t).writes)
thread_outside s (ThreadOperation.Mask enable disable) c t book = only (not_thread book t)
thread_outside s ThreadOperation.Pin c t book = only (not_thread book t)
thread_outside s (ThreadOperation.Priority a) c t book = only (not_thread book t)

-- Every operation in range keeps the books.
module _ (m : Machine) (s : Lengths m) (w : WellFormed m) where
  abbrev Books : Op machine_store (Answer ℕ) → Call → Type 0
  Books o call = Kept m (doing m o) (is_ok (reply machine_store (Answer ℕ) m o).code) call

  lock_books : (op : LockOperation) (c k : ℕ) → c < m.setup.n → k < lock_count → Books (on_lock m.setup op c k) (called (kind_of op) c k)
  lock_books op c k hc hk =
      let few = w.size.few in
      call_kept m s op c k (omega arith) hk (Rules.lock_op m.setup op c (cpu_at m c).run (lock_at m k)) (lock_told m w c k hc hk op)

  books : (op : Operation) (c t l : ℕ) → c < m.setup.n → l < lock_count → Books (operation_by m.setup op c t l) (call_by op c l)
  books Operation.Malformed c t l hc hl = aside m (operation_by m.setup Operation.Malformed c t l) (λ book. no_cell)
  books (Operation.OnCpu op) c t l hc hl = aside m (on_cpu op c t) (cpu_outside op c t)
  books (Operation.OnLock op) c t l hc hl = lock_books op c l hc hl
  books (Operation.OnThread op) c t l hc hl = aside m (on_thread m.setup op c t) (thread_outside m.setup op c t)
  books Operation.Ipi c t l hc hl = aside m (operation_by m.setup Operation.Ipi c t l) (λ book. no_cell)
  books Operation.Owner c t l hc hl = aside m (operation_by m.setup Operation.Owner c t l) (λ book. no_cell)
  books Operation.Unwind c t l hc hl = unwind_books m s w c t hc

  pub record_books : (bytes : List ℕ) → Kept m (next m bytes) (is_ok (answered m bytes).code) (call_of (request_of m.setup bytes))
  unfolding next answered
  record_books bytes =
      let r = request_of m.setup bytes in
      let ranged = asks_in_range m w bytes in
      books r.operation r.cpu.0 r.thread.0 r.lock.0 ranged.cpu ranged.lock

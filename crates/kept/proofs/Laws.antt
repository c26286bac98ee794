-- A record on a well-formed machine leaves a well-formed machine, whatever its bytes. By the families of operations: a refusal leaves the
-- machine, and what a rule accepts is a good change. Assumes nothing.
use mathlib.Core.Path.{◌≡◌, ◌∙◌}
use mathlib.Core.Bool.{true, false}
use mathlib.Core.List.{List, [], ◌∷◌}
use Prim.Native.Nat.{ℕ, zero, suc, ◌<◌}
use native.Mathlib.Omega.{arith}
use lib.IntN.{ℤ, pos, neg_ℤ}
use lib.Signed.{◌≤ℤ◌}
use Rattle.error.specs.Answer.{Answer}
use Rattle.spinlock.specs.declared.Operation.{Operation as LockOperation}
use Rattle.order.specs.Outcome.{Outcome, refuse, accept}
use Rattle.order.specs.Cells.{Op, result, commit, after}
use Rattle.machine.specs.State.{thread_count, lock_count, cpu_at, thread_at, lock_at}
use Rattle.machine.specs.declared.Run.{Run}
use Rattle.machine.specs.declared.Thread.{Thread}
use Rattle.machine.specs.declared.Lock.{Lock}
use Rattle.machine.specs.declared.Machine.{Machine}
use Rattle.machine.proofs.Priority.{priority_says}
use Rattle.record.specs.Record.{request_of}
use Rattle.record.specs.declared.CpuOperation.{CpuOperation}
use Rattle.record.specs.declared.ThreadOperation.{ThreadOperation}
use Rattle.record.specs.declared.Operation.{Operation}
use Rattle.record.specs.declared.Request.{Request}
use Rattle.record.proofs.Range.{Ranged, priority_ok, request_priority}
use Rattle.rules.specs.Rules as Rules
use Rattle.wellformed.specs.WellFormed.{well_formed}
use Rattle.wellformed.proofs.Facts.{WellFormed, says, says_back}
use Rattle.operations.specs.Cells.{run, hold, thread, lock, set_thread, put, machine_store}
use Rattle.operations.specs.Operations.{one, two, with_hold, on_cpu, on_lock, on_thread, operation_by, operation}
use Rattle.operations.specs.Asked.{next}
use Rattle.operations.specs.Log.{record_at, state_at}
use Rattle.operations.proofs.Turns.{writes_none}
use Rattle.operations.proofs.Lengths.{Lengths, next_lengths}
use Rattle.kept.proofs.Accepted.{
  Accepting,
  Ups,
  up_accepted,
  Downs,
  down_accepted,
  put_accepted,
  take_accepted,
  Masks,
  mask_accepted,
  pin_accepted,
  Priorities,
  priority_accepted,
}
use Rattle.kept.proofs.Running.{down_is_idle, idled_kept}
use Rattle.kept.proofs.Threads.{thread_kept}
use Rattle.kept.proofs.Seats.{reseated}
use Rattle.kept.proofs.Seated.{put_kept, take_kept}
use Rattle.kept.proofs.Locks.{relocked, relocked_kept}
use Rattle.kept.proofs.Locked.{lock_accepted}
use Rattle.kept.proofs.Unwinds.{unwind_kept}
use Rattle.kept.proofs.Ranges.{asks_in_range}

-- A refusal leaves the machine; what is accepted is stored.
module _ (m : Machine) (w : WellFormed m) where
  run_outcome : (c : ℕ) (Q : Run → Type 0) (o : Outcome (Answer ℕ) Run) → Accepting Q o
      → ((v : Run) → Q v → WellFormed (put (run c) v m)) → WellFormed (commit machine_store (Answer ℕ) (run c ∷ []) (one o) m)
  run_outcome c Q (refuse a) q kept = w
  run_outcome c Q (accept a v) q kept = kept v q

  thread_outcome : (t : ℕ) (Q : Thread → Type 0) (o : Outcome (Answer ℕ) Thread) → Accepting Q o
      → ((v : Thread) → Q v → WellFormed (set_thread m t v)) → WellFormed (commit machine_store (Answer ℕ) (thread t ∷ []) (one o) m)
  thread_outcome t Q (refuse a) q kept = w
  thread_outcome t Q (accept a v) q kept = kept v q

  seat_outcome : (c t : ℕ) (Q : Run × Thread → Type 0) (o : Outcome (Answer ℕ) (Run × Thread)) → Accepting Q o
      → ((v : Run × Thread) → Q v → WellFormed (reseated m c t v.0 v.1))
      → WellFormed (commit machine_store (Answer ℕ) (run c ∷ thread t ∷ []) (two o) m)
  seat_outcome c t Q (refuse a) q kept = w
  seat_outcome c t Q (accept a v) q kept = kept v q

  lock_outcome : (op : LockOperation) (c l : ℕ) (Q : Lock → Type 0) (o : Outcome (Answer ℕ) Lock) → Accepting Q o
      → ((v : Lock) → Q v → WellFormed (relocked m c l (Rules.moved op (cpu_at m c).hold) v))
      → WellFormed (commit machine_store (Answer ℕ) (lock l ∷ hold c ∷ []) (with_hold op (cpu_at m c).hold o) m)
  lock_outcome op c l Q (refuse a) q kept = w
  lock_outcome op c l Q (accept a v) q kept = kept v q

module _ (m : Machine) (s : Lengths m) (w : WellFormed m) where
  up_kept : (c : ℕ) → c < m.setup.n → (v : Run) → Ups (cpu_at m c).run v → WellFormed (put (run c) v m)
  up_kept c h v u = rw u.is (idled_kept m s w c h (down_is_idle m w c (omega (arith, w.size.few)) u.down) true)

  down_kept : (c : ℕ) → c < m.setup.n → (v : Run) → Downs (cpu_at m c).run v → WellFormed (put (run c) v m)
  down_kept c h v u = rw u.is (idled_kept m s w c h u.idle false)

  mask_kept : (t : ℕ) → t < thread_count → (v : Thread) → Masks m.setup (thread_at m t) v → WellFormed (set_thread m t v)
  mask_kept t h v k =
      let fit = (w.seats.threads t h).fit in
      thread_kept m s w t h v k.nowhere (k.place ∙ k.nowhere)
      (record { least = rw k.priority fit.least; greatest = rw k.priority fit.greatest; mask = k.mask })

  priority_kept : (t : ℕ) → t < thread_count → (a : ℤ) → (neg_ℤ (pos 128) ≤ℤ a) × (a ≤ℤ pos 127) → (v : Thread)
      → Priorities a (thread_at m t) v → WellFormed (set_thread m t v)
  priority_kept t h a fits v k =
      let mask = (w.seats.threads t h).fit.mask in
      rw k.is (thread_kept m s w t h _ k.nowhere k.nowhere (record { least = fits.0; greatest = fits.1; mask = mask }))

  -- The machine after an operation.
  abbrev afterwards : Op machine_store (Answer ℕ) → Machine
  afterwards o = after machine_store (Answer ℕ) m o

  -- An operation on a CPU leaves a well-formed machine.
  cpu_kept : (op : CpuOperation) (c t : ℕ) → c < m.setup.n → t < thread_count → WellFormed (afterwards (on_cpu op c t))
  cpu_kept CpuOperation.Up c t hc ht = let r = (cpu_at m c).run in run_outcome m w c _ (Rules.up r) (up_accepted r) (up_kept c hc)
  cpu_kept CpuOperation.Down c t hc ht = let r = (cpu_at m c).run in run_outcome m w c _ (Rules.down r) (down_accepted r) (down_kept c hc)
  cpu_kept CpuOperation.Put c t hc ht =
      let r = (cpu_at m c).run in
      let k = thread_at m t in
      seat_outcome m w c t _ (Rules.put c t r k) (put_accepted c t r k) (put_kept m s w c t hc ht)
  cpu_kept CpuOperation.Take c t hc ht =
      let r = (cpu_at m c).run in
      let h = (cpu_at m c).hold in
      let k = thread_at m t in
      seat_outcome m w c t _ (Rules.take t h r k) (take_accepted t h r k) (take_kept m s w c t hc ht)

  -- So does one on a lock.
  lock_kept : (op : LockOperation) (c l : ℕ) → c < m.setup.n → l < lock_count → WellFormed (afterwards (on_lock m.setup op c l))
  lock_kept op c l hc hl =
      lock_outcome m w op c l _ (Rules.lock_op m.setup op c (cpu_at m c).run (lock_at m l)) (lock_accepted m w c l hc hl op)
      (λ v g. relocked_kept m s w c l hc hl _ v g)

  -- So does one on a thread.
  on_thread_kept : (op : ThreadOperation) (c t : ℕ) → c < m.setup.n → t < thread_count → priority_ok (Operation.OnThread op) ≡ true
      → WellFormed (afterwards (on_thread m.setup op c t))
  on_thread_kept (ThreadOperation.Mask enable disable) c t hc ht p =
      let k = thread_at m t in
      thread_outcome m w t _ (Rules.mask m.setup enable disable k) (mask_accepted m.setup enable disable k) (mask_kept t ht)
  on_thread_kept ThreadOperation.Pin c t hc ht p =
      let k = thread_at m t in
      let accepted = pin_accepted m.setup c hc (omega (arith, w.size.few)) k in
      thread_outcome m w t _ (Rules.pin m.setup c k) accepted (mask_kept t ht)
  on_thread_kept (ThreadOperation.Priority a) c t hc ht p =
      let k = thread_at m t in
      thread_outcome m w t _ (Rules.priority a k) (priority_accepted a k) (priority_kept t ht a (priority_says a p))

  -- So does every operation: ipi and owner store nothing.
  operation_kept : (op : Operation) (c t l : ℕ) → c < m.setup.n → t < thread_count → l < lock_count → priority_ok op ≡ true
      → WellFormed (afterwards (operation_by m.setup op c t l))
  operation_kept Operation.Malformed c t l hc ht hl p = w
  operation_kept (Operation.OnCpu op) c t l hc ht hl p = cpu_kept op c t hc ht
  operation_kept (Operation.OnLock op) c t l hc ht hl p = lock_kept op c l hc hl
  operation_kept (Operation.OnThread op) c t l hc ht hl p = on_thread_kept op c t hc ht p
  operation_kept Operation.Ipi c t l hc ht hl p =
      rw (writes_none m (result machine_store (Answer ℕ) (operation_by m.setup Operation.Ipi c t l) m)) w
  operation_kept Operation.Owner c t l hc ht hl p = w
  operation_kept Operation.Unwind c t l hc ht hl p = unwind_kept m s w c t hc

  -- Every request in range leaves a well-formed machine.
  pub request_kept : (r : Request) → Ranged m.setup r → priority_ok r.operation ≡ true
      → WellFormed (after machine_store (Answer ℕ) m (operation m.setup r))
  request_kept r e p = operation_kept r.operation r.cpu.0 r.thread.0 r.lock.0 e.cpu e.thread e.lock p

-- Well-formed is kept by every record.
pub step_keeps : (m : Machine) → Lengths m → (bytes : List ℕ) → well_formed m ≡ true → well_formed (next m bytes) ≡ true
unfolding next
step_keeps m s bytes good =
    let w = says m good in
    says_back (next m bytes) (request_kept m s w (request_of m.setup bytes) (asks_in_range m w bytes) (request_priority m.setup bytes))

-- So it is after the first k records of a log.
pub states_keep : (m : Machine) → Lengths m → (log : List ℕ) (k : ℕ) → well_formed m ≡ true
    → Lengths (state_at m log k) × (well_formed (state_at m log k) ≡ true)
unfolding state_at
states_keep m s log zero good = (s, good)
states_keep m s log (suc k) good =
    let before = states_keep m s log k good in
    (next_lengths (state_at m log k) (record_at log k) before.0, step_keeps (state_at m log k) before.0 (record_at log k) before.1)

-- 01, "Log records", and 02, requests 1, 5 and 6: the operations, each a function of the cells that it names. The tests stand in the order of 01's
-- table, after the form test; a value on a refusal is the one that stands after the unchanged call.
use Rattle.machine.specs.declared.ThreadId.{ThreadId}
use Rattle.machine.specs.declared.CpuId.{CpuId}
use Rattle.std.specs.Prelude.{ℕ, zero, suc, ◌+◌, ◌-◌, ◌%◌, ◌^◌, Bool, true, false, ◌&&◌, ◌||◌, not, cond, List, [], ◌∷◌, ◌++◌, map, eqb, ltb, ℤ, get_or, Option, None, Some, Result, Ok, Err}
use Rattle.error.specs.Codes.{OK, EPERM, EBUSY, EINVAL, EALREADY, number_of, refusal_number, is_ok}
use Rattle.error.specs.Answer.{Answer, answer}
use Rattle.error.specs.declared.Refusal.{Refusal}
use Rattle.words.specs.Bit.{bit, bit_not}
use Rattle.spinlock_validate.specs.Owner.{spin_lock_compute_owner, spin_lock_valid, spin_unlock_valid}
use Rattle.spinlock.specs.Lock.{operate, acquire_again, held}
use Rattle.spinlock.specs.declared.SpinlockState.{SpinlockState}
use Rattle.spinlock.specs.declared.Operation.{Operation}
use Rattle.cpu_mask.specs.Mask.{mask_bits, bits_below, cpu_mask_mod, cpu_pin_compute}
use Rattle.ipi.specs.Ipi.{max_ipi_cpus, compute_ipi_mask}
use Rattle.ipi.specs.declared.CpuRecord.{CpuRecord}
use Rattle.order.specs.Outcome.{Outcome, refuse, accept, answer_of, cells_after, applied_to, accepted}
use Rattle.machine.specs.State.{cpu_slots, is_thread, is_priority, tag_bits, thread_word, names, is_current, idle_run, free_lock, no_cpu}
use Rattle.machine.specs.declared.Setup.{Setup}
use Rattle.machine.specs.declared.Run.{Run}
use Rattle.machine.specs.declared.Cpu.{Cpu}
use Rattle.machine.specs.declared.Thread.{Thread}
use Rattle.machine.specs.declared.Lock.{Lock}
use Rattle.record.specs.declared.CpuOperation.{CpuOperation}
use Rattle.record.specs.declared.ThreadOperation.{ThreadOperation}
use Rattle.rules.specs.declared.Answered.{Answered}

-- What an answer says: a code and a value.
abbrev pub answered_says : Answered → Answer ℕ
answered_says a = answer (number_of a.code) a.value

-- An answer with value 0, and the cells after it: new ones, or on a refusal those before it.
abbrev pub cells_say : {W : Type 0} → W → Result W Refusal → Answer ℕ × W
cells_say before (Ok after) = (answer OK 0, after)
cells_say before (Err why) = (answer (refusal_number why) 0, before)

-- Refused with a code and a value.
abbrev pub refused : {W : Type 0} → ℤ → ℕ → Outcome (Answer ℕ) W
refused code value = refuse (answer code value)

-- Done with a value and the cells after it.
abbrev pub done : {W : Type 0} → ℕ → W → Outcome (Answer ℕ) W
done value cells = accept (answer OK value) cells

-- A rule that is called with numbers that no record may carry is refused, and hands its cells back.
abbrev pub ranged : {W : Type 0} → Bool → W → Answer ℕ × W → Answer ℕ × W
ranged in_range cells o = cond in_range o (answer EINVAL 0, cells)

-- The CPU has a thread.
abbrev pub occupied : Option ThreadId → Bool
occupied None = false
occupied (Some t) = true

-- The thread has a place.
abbrev pub placed : Option CpuId → Bool
placed None = false
placed (Some c) = true

-- 0 up: active EALREADY. Leaves the CPU active and idle.
unfoldable pub up : Run → Outcome (Answer ℕ) Run
up run = cond run.active (refused EALREADY 0) (done 0 (idle_run true))

-- 1 down: not active EALREADY; has a thread EBUSY. Leaves it down.
unfoldable pub down : Run → Outcome (Answer ℕ) Run
down run = cond (not run.active) (refused EALREADY 0) (cond (occupied run.current) (refused EBUSY 0) (done 0 (idle_run false)))

-- The thread is current with its priority, and the CPU is its place.
abbrev pub seated : ℕ → ℕ → Run → Thread → Run × Thread
seated c t run thread = (
  record { active = run.active; current = Some (record { 0 = t }); priority = thread.priority },
  record { mask = thread.mask; priority = thread.priority; place = Some (record { 0 = c }) },
)

-- 2 put: not active EINVAL; CPU occupied or thread placed EBUSY; mask bit clear EINVAL. Makes the thread current and sets its place.
unfoldable pub put : ℕ → ℕ → Run → Thread → Outcome (Answer ℕ) (Run × Thread)
put c t run thread =
    cond (not run.active) (refused EINVAL 0)
    (cond (occupied run.current || placed thread.place) (refused EBUSY 0)
    (cond (not (bit c thread.mask)) (refused EINVAL 0)
    (done 0 (seated c t run thread))))

-- The CPU is active and idle, and the thread has no place.
abbrev pub unseated : Thread → Run × Thread
unseated thread = (idle_run true, record { mask = thread.mask; priority = thread.priority; place = None })

-- 3 take: current thread differs or is none EPERM; hold > 0 EBUSY. Leaves the CPU idle and clears the thread's place.
unfoldable pub take : ℕ → ℕ → Run → Thread → Outcome (Answer ℕ) (Run × Thread)
take t hold run thread =
    cond (not (is_current run.current t)) (refused EPERM 0) (cond (not (eqb hold 0)) (refused EBUSY 0) (done 0 (unseated thread)))

-- An answer, with the CPU after another run cell and the thread as it was.
abbrev pub with_run : Answer ℕ × Run → Cpu → Thread → Answer ℕ × (Cpu × Thread)
with_run o cpu thread = (o.0, (record { run = o.1; hold = cpu.hold }, thread))

-- The same where the thread is another too.
abbrev pub with_seat : Answer ℕ × (Run × Thread) → Cpu → Answer ℕ × (Cpu × Thread)
with_seat o cpu = (o.0, (record { run = o.1.0; hold = cpu.hold }, o.1.1))

-- The CPU and the thread after an operation on a CPU.
unfoldable pub on_cpu : CpuOperation → ℕ → ℕ → Cpu → Thread → Answer ℕ × (Cpu × Thread)
on_cpu CpuOperation.Up c t cpu thread = with_run (applied_to cpu.run (up cpu.run)) cpu thread
on_cpu CpuOperation.Down c t cpu thread = with_run (applied_to cpu.run (down cpu.run)) cpu thread
on_cpu CpuOperation.Put c t cpu thread = with_seat (applied_to (cpu.run, thread) (put c t cpu.run thread)) cpu
on_cpu CpuOperation.Take c t cpu thread = with_seat (applied_to (cpu.run, thread) (take t cpu.hold cpu.run thread)) cpu

-- In a nested acquire and a release ownership needs thread and CPU of the word: a thread is elsewhere unless the word is its own on this CPU,
-- and elsewhere the right thread is as another one.
abbrev pub elsewhere : Setup → ℕ → ℕ → Lock → Bool
elsewhere s c t lock = not (spin_unlock_valid (tag_bits s) lock.word c (thread_word s t)).value

-- 02, request 6: a plain acquire is one again exactly if spin_lock_valid of the lock's word for the asking CPU is no.
abbrev pub again : Setup → Operation → ℕ → ℕ → Bool
again s (Operation.Acquire nested) c word = not nested && not (spin_lock_valid (tag_bits s) word c).value
again s Operation.Release c word = false

-- The lock's rule for thread t on CPU c.
abbrev pub ruled : Setup → Operation → ℕ → ℕ → Lock → Answer SpinlockState
ruled s op c t lock = cond (again s op c lock.word) (acquire_again lock.state t) (operate op lock.state t (elsewhere s c t lock))

-- Taking a free lock makes its word, and freeing it zeroes the word.
abbrev pub word_after : Setup → ℕ → ℕ → Lock → SpinlockState → ℕ
word_after s c t lock next =
    cond (held next.owner) (cond (held lock.state.owner) lock.word (spin_lock_compute_owner (tag_bits s) c (thread_word s t)).value) 0

-- What the lock's rule comes to: the lock after it, or its refusal. The value is the depth after.
abbrev pub settled : Setup → ℕ → ℕ → Lock → Answer SpinlockState → Outcome (Answer ℕ) Lock
settled s c t lock a =
    cond (is_ok a.code) (done a.value.nest_count (record { state = a.value; word = word_after s c t lock a.value }))
    (refused a.code a.value.nest_count)

-- No thread on cpu EINVAL; then the lock's rule for its current thread. (One from 32 on, which no well-formed machine has, is no thread.)
abbrev pub lock_by : Setup → Operation → ℕ → Option ThreadId → Lock → Outcome (Answer ℕ) Lock
lock_by s op c None lock = refused EINVAL lock.state.nest_count
lock_by s op c (Some t) lock =
    cond (is_thread t.0) (settled s c t.0 lock (ruled s op c t.0 lock)) (refused EINVAL lock.state.nest_count)

-- 4 acquire, 6 release.
unfoldable pub lock_op : Setup → Operation → ℕ → Run → Lock → Outcome (Answer ℕ) Lock
lock_op s op c run lock = lock_by s op c run.current lock

-- One more. (A hold is a u32 and stays below 2 ^ 32: a well-formed machine's is at most 128 times 255.)
abbrev pub one_more : ℕ → ℕ
one_more hold = cond (ltb hold 0xffff_ffff) (hold + 1) hold

-- An acquire of either kind or a release moves a hold by one.
abbrev pub moved : Operation → ℕ → ℕ
moved (Operation.Acquire nested) hold = one_more hold
moved Operation.Release hold = hold - 1

-- It does so if it is accepted.
abbrev pub hold_after : Operation → ℕ → Outcome (Answer ℕ) Lock → ℕ
hold_after op hold o = cond (accepted o) (moved op hold) hold

-- The answer of a lock's rule, with the CPU after its hold moved and the lock after it.
abbrev pub with_lock : Operation → Cpu → Lock → Outcome (Answer ℕ) Lock → Answer ℕ × (Cpu × Lock)
with_lock op cpu lock o = (answer_of o, (record { run = cpu.run; hold = hold_after op cpu.hold o }, cells_after lock o))

-- The CPU and the lock after an operation on a lock.
unfoldable pub on_lock : Setup → Operation → ℕ → Cpu → Lock → Answer ℕ × (Cpu × Lock)
on_lock s op c cpu lock = with_lock op cpu lock (lock_op s op c cpu.run lock)

-- The mask rule, running = placed.
abbrev pub masked : Setup → ℕ → ℕ → Thread → Answer ℕ
masked s enable disable thread = cpu_mask_mod thread.mask enable disable (placed thread.place) s.pin_only

-- 02, request 5, after it: under pin-only EINVAL with the current mask unless the one bit that is left is below n.
abbrev pub within_cpus : Setup → ℕ → Answer ℕ → Answer ℕ
within_cpus s current a = cond (s.pin_only && not (bits_below a.value s.n)) (answer EINVAL current) a

-- What these come to: the thread after it, or its refusal. The value is the mask after.
abbrev pub remasked : Thread → Answer ℕ → Outcome (Answer ℕ) Thread
remasked thread a =
    cond (is_ok a.code) (done a.value (record { mask = a.value; priority = thread.priority; place = thread.place }))
    (refused a.code a.value)

-- 7 mask.
unfoldable pub mask : Setup → ℕ → ℕ → Thread → Outcome (Answer ℕ) Thread
mask s enable disable thread = remasked thread (within_cpus s thread.mask (masked s enable disable thread))

-- The bit of a CPU.
abbrev pub cpu_bit : ℕ → ℕ
cpu_bit c = (cpu_pin_compute c mask_bits).value

-- 8 pin: the mask rule, only that bit left.
unfoldable pub pin : Setup → ℕ → Thread → Outcome (Answer ℕ) Thread
pin s c thread = remasked thread (masked s (cpu_bit c) (bit_not mask_bits (cpu_bit c)) thread)

-- 9 priority: placed EBUSY. Sets the priority to A.
unfoldable pub priority : ℤ → Thread → Outcome (Answer ℕ) Thread
priority a thread =
    cond (placed thread.place) (refused EBUSY 0) (done 0 (record { mask = thread.mask; priority = a; place = thread.place }))

-- The thread after an operation on it.
unfoldable pub on_thread : Setup → ThreadOperation → ℕ → Thread → Answer ℕ × Thread
on_thread s (ThreadOperation.Mask enable disable) c thread = applied_to thread (mask s enable disable thread)
on_thread s ThreadOperation.Pin c thread = applied_to thread (pin s c thread)
on_thread s (ThreadOperation.Priority a) c thread = applied_to thread (priority a thread)

-- A record may carry the operation: a priority lies in -128..127.
abbrev pub carriable : ThreadOperation → Bool
carriable (ThreadOperation.Mask enable disable) = true
carriable ThreadOperation.Pin = true
carriable (ThreadOperation.Priority a) = is_priority a

-- What the interrupt rule looks at in a run cell.
abbrev pub cpu_record : Run → CpuRecord
cpu_record run = record { active = run.active; priority = run.priority }

-- The run cells of the first k of these CPUs.
abbrev pub runs_of : ℕ → List Cpu → List Run
runs_of zero cpus = []
runs_of (suc k) cpus = runs_of k cpus ++ ((get_or cpus k no_cpu).run ∷ [])

-- 10 ipi: cpu as current, n CPUs, the thread's priority and mask. The value is the IPI mask.
unfoldable pub ipi : Setup → ℕ → List Run → Thread → Answer ℕ
ipi s c runs thread = compute_ipi_mask c thread.priority thread.mask (map cpu_record runs) s.n max_ipi_cpus

-- That rule on the run cells of these CPUs.
abbrev pub ipi_of : Setup → ℕ → List Cpu → Thread → Answer ℕ
ipi_of s c cpus thread = ipi s c (runs_of cpu_slots cpus) thread

-- 11 owner: the value is the owner word, in 32 bits.
unfoldable pub owner : Lock → Answer ℕ
owner lock = answer OK (lock.word % 2 ^ 32)

-- A lock after CPU c gave back what it had: free if its word names the CPU, else as it was.
abbrev pub given_back : Setup → ℕ → Lock → Lock
given_back s c lock = cond (names s lock.word c) free_lock lock

-- 12 unwind: current thread differs or is none EPERM, value 0. Every lock whose word names the CPU becomes free, and its hold 0; the value is the
-- hold before.
unfoldable pub unwind : Setup → ℕ → ℕ → Run → ℕ → List Lock → Outcome (Answer ℕ) (ℕ × List Lock)
unwind s c t run hold locks = cond (not (is_current run.current t)) (refused EPERM 0) (done hold (0, map (given_back s c) locks))

-- The answer of an unwind with the CPU after it, which its test alone decides.
unfoldable pub unwound : ℕ → Cpu → Answer ℕ × Cpu
unwound t cpu =
    cond (is_current cpu.run.current t) (answer OK cpu.hold, record { run = cpu.run; hold = 0 }) (answer EPERM 0, cpu)

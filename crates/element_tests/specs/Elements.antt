-- 01, "The machine", "Well-formed": what each clause asks of one CPU, one lock or one thread, as a test.
use Rattle.machine.specs.declared.ThreadId.{ThreadId}
use Rattle.machine.specs.declared.CpuId.{CpuId}
use Rattle.std.specs.Prelude.{ℕ, Bool, true, false, ◌&&◌, ◌||◌, not, cond, List, eqb, ltb, ℤ, pos, get_or, Option, None, Some}
use Rattle.std.specs.Int.Count.{ones}
use Rattle.std.specs.Int.Signed.{lt_z}
use Rattle.words.specs.Bit.{bit}
use Rattle.words.specs.Tag.{word_of, cpu_of}
use Rattle.spinlock.specs.Lock.{valid_record}
use Rattle.cpu_mask.specs.Mask.{bits_below}
use Rattle.machine.specs.State.{thread_count, tag_bits, thread_word, names, is_current, no_cpu, no_thread}
use Rattle.machine.specs.declared.Run.{Run}
use Rattle.machine.specs.declared.Cpu.{Cpu}
use Rattle.machine.specs.declared.Thread.{Thread}
use Rattle.machine.specs.declared.Lock.{Lock}
use Rattle.machine.specs.declared.Setup.{Setup}

-- Two signed numbers are equal.
abbrev pub eq_z : ℤ → ℤ → Bool
eq_z a b = not (lt_z a b) && not (lt_z b a)

-- Thread t is current on CPU c of these.
abbrev pub runs : List Cpu → ℕ → ℕ → Bool
runs cpus c t = is_current (get_or cpus c no_cpu).run.current t

-- The place is CPU c.
abbrev pub is_place : Option CpuId → ℕ → Bool
is_place None c = false
is_place (Some d) c = eqb d.0 c

-- Unused CPU slots are down with hold 0: the slots below n are used.
abbrev pub slot_by : ℕ → ℕ → Cpu → Bool
slot_by n c cpu = ltb c n || (not cpu.run.active && eqb cpu.hold 0)

-- With no owner the word is 0; with one the flag is set, and the word is made from the owner's thread word and a CPU below n on which it is
-- current.
abbrev pub owner_ok : Setup → List Cpu → Lock → Option ℕ → Bool
owner_ok s cpus k None = eqb k.word 0
owner_ok s cpus k (Some t) =
    k.state.irq_saved
    && (eqb k.word (word_of (cpu_of (tag_bits s) k.word) (thread_word s t))
    && (ltb (cpu_of (tag_bits s) k.word) s.n && runs cpus (cpu_of (tag_bits s) k.word) t))

-- A lock is a valid record, free with word 0, or at depth 1 to 255 with flag set and the word made from its owner's thread word and a CPU
-- below n on which that owner is current.
abbrev pub lock_by : Setup → List Cpu → Lock → Bool
lock_by s cpus k = valid_record k.state && owner_ok s cpus k k.state.owner

-- The depth of a lock whose word names CPU c, and 0 of another.
abbrev pub depth_for : Setup → Lock → ℕ → ℕ
depth_for s k c = cond (names s k.word c) k.state.nest_count 0

-- A current thread is below 32 and its CPU is active, carries its priority, is its place, and is allowed by its mask.
abbrev pub current_by : List Thread → ℕ → Run → Option ThreadId → Bool
current_by threads c run None = true
current_by threads c run (Some t) =
    ltb t.0 thread_count
    && (run.active
    && (eq_z run.priority (get_or threads t.0 no_thread).priority
    && (is_place (get_or threads t.0 no_thread).place c && bit c (get_or threads t.0 no_thread).mask)))

-- A placed thread is the current thread of the CPU below n that is its place.
abbrev pub place_by : ℕ → List Cpu → ℕ → Option CpuId → Bool
place_by n cpus t None = true
place_by n cpus t (Some c) = ltb c.0 n && runs cpus c.0 t

-- No current thread means priority 128.
abbrev pub idle_by : ℤ → Option ThreadId → Bool
idle_by priority None = eq_z priority (pos 128)
idle_by priority (Some t) = true

-- Under pin-only each mask has one bit.
abbrev pub mask_by : Bool → Thread → Bool
mask_by pinOnly thread = not pinOnly || eqb (ones thread.mask) 1

-- 02, request 5: under pin-only each mask's bit is below n.
abbrev pub pin_by : Setup → Thread → Bool
pin_by s thread = not s.pin_only || bits_below thread.mask s.n

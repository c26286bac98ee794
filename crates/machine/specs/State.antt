-- 01, "The machine", and 02, request 4: n CPUs, 32 threads, and 128 locks, all free at the start, in one record.
use Rattle.machine.specs.declared.ThreadId.{ThreadId}
use Rattle.std.specs.Prelude.{ℕ, ◌+◌, ◌*◌, ◌/◌, ◌%◌, ◌^◌, Bool, true, false, ◌&&◌, not, cond, eqb, leb, ltb, ℤ, pos, neg_ℤ, List, get_or, replicate, Option, None, Some}
use Rattle.std.specs.Int.Signed.{le_z}
use Rattle.error.specs.Codes.{OK, EINVAL}
use Rattle.error.specs.Answer.{Answer, answer}
use Rattle.words.specs.Tag.{cpu_of}
use Rattle.spinlock_validate.specs.Owner.{width_bits, width_by}
use Rattle.spinlock_validate.specs.declared.Width.{Width}
use Rattle.spinlock.specs.Lock.{free_record}
use Rattle.machine.specs.declared.Run.{Run}
use Rattle.machine.specs.declared.Cpu.{Cpu}
use Rattle.machine.specs.declared.Thread.{Thread}
use Rattle.machine.specs.declared.Lock.{Lock}
use Rattle.machine.specs.declared.Setup.{Setup}
use Rattle.machine.specs.declared.Machine.{Machine}

-- How many CPU slots, threads and locks there are.
abbrev pub cpu_slots : ℕ
cpu_slots = 16

abbrev pub thread_count : ℕ
thread_count = 32

abbrev pub lock_count : ℕ
lock_count = 128

-- The width of a setup's tags.
abbrev pub width_of : Setup → Width
width_of k = width_by k.wide

-- How many bits of an owner word are the CPU's number: 4 if wide, else 2.
abbrev pub tag_bits : Setup → ℕ
tag_bits k = width_bits (width_of k)

-- n is 1 to 16 if wide, else 1 to 4: as many as a tag tells apart.
abbrev pub setup_ok : Setup → Bool
setup_ok k = leb 1 k.n && leb k.n (2 ^ tag_bits k)

-- A machine of this setup has CPU c.
abbrev pub has_cpu : Setup → ℕ → Bool
has_cpu k c = setup_ok k && ltb c k.n

-- There is a thread t.
abbrev pub is_thread : ℕ → Bool
is_thread t = ltb t thread_count

-- Thread priorities lie in -128..127.
unfoldable pub is_priority : ℤ → Bool
is_priority p = le_z (neg_ℤ (pos 128)) p && le_z p (pos 127)

-- Thread t has thread word 16(t+1) if wide, else 4(t+1).
abbrev pub thread_word : Setup → ℕ → ℕ
thread_word k t = 2 ^ tag_bits k * (t + 1)

-- The word names CPU c. Word 0 names nobody.
abbrev pub names : Setup → ℕ → ℕ → Bool
names k word c = not (eqb word 0) && eqb (cpu_of (tag_bits k) word) c

-- Thread t is the current one.
abbrev pub is_current : Option ThreadId → ℕ → Bool
is_current None t = false
is_current (Some s) t = eqb s.0 t

-- An idle or down CPU has priority 128.
abbrev pub idle_run : Bool → Run
idle_run active = record { active = active; current = None; priority = pos 128 }

-- Fresh: CPUs down; threads have priority 0, no place, mask 1 with pin-only, else all ones; locks free, with word 0.
abbrev pub fresh_cpu : Cpu
fresh_cpu = record { run = idle_run false; hold = 0 }

unfoldable pub thread_mask : Bool → ℕ
thread_mask true = 1
thread_mask false = 0xffff_ffff

abbrev pub fresh_thread : Bool → Thread
fresh_thread pinOnly = record { mask = thread_mask pinOnly; priority = pos 0; place = None }

abbrev pub free_lock : Lock
free_lock = record { state = free_record; word = 0 }

-- The threads of a fresh machine.
abbrev pub fresh_threads : Setup → List Thread
fresh_threads k = replicate thread_count (fresh_thread k.pin_only)

-- A machine at its start, with these threads.
unfoldable pub fresh_machine : Setup → List Thread → Machine
fresh_machine k threads =
    record {
      setup = k;
      cpus = replicate cpu_slots fresh_cpu;
      threads = threads;
      locks = replicate lock_count free_lock;
    }

-- A refused call that would make a machine gives the fresh one of n 1, all flags off.
abbrev pub least_setup : Setup
least_setup = record { n = 1; pin_only = false; wide = false }

abbrev pub least_machine : Machine
least_machine = fresh_machine least_setup (fresh_threads least_setup)

unfoldable pub not_made : Answer Machine
not_made = answer EINVAL least_machine

-- n is 1 to 4, to 16 if wide, else EINVAL.
unfoldable pub fresh : Setup → Answer Machine
fresh k = cond (setup_ok k) (answer OK (fresh_machine k (fresh_threads k))) not_made

-- Of a wide machine the CPU field 0 means 16.
abbrev pub cpu_field : Bool → ℕ → ℕ
cpu_field wide field = cond (wide && eqb field 0) cpu_slots field

-- A setup byte: n 4 bits, pin-only 1, wide 1, zero 2.
abbrev pub setup_of : ℕ → Setup
setup_of byte =
    record { n = cpu_field (eqb (byte / 4 % 2) 1) (byte / 16); pin_only = eqb (byte / 8 % 2) 1; wide = eqb (byte / 4 % 2) 1 }

-- The setup that a byte stands for: its last two bits are zero, and n is as above, else EINVAL.
unfoldable pub setup_by_byte : ℕ → Answer Setup
setup_by_byte byte = cond (eqb (byte % 4) 0 && setup_ok (setup_of byte)) (answer OK (setup_of byte)) (answer EINVAL least_setup)

unfoldable pub setup : ℕ → Answer Machine
setup byte = cond (eqb (byte % 4) 0) (fresh (setup_of byte)) not_made

-- What stands past the end of an array: all zero.
abbrev pub no_cpu : Cpu
no_cpu = record { run = record { active = false; current = None; priority = pos 0 }; hold = 0 }

abbrev pub no_thread : Thread
no_thread = record { mask = 0; priority = pos 0; place = None }

abbrev pub cpu_at : Machine → ℕ → Cpu
cpu_at m c = get_or m.cpus c no_cpu

abbrev pub thread_at : Machine → ℕ → Thread
thread_at m t = get_or m.threads t no_thread

abbrev pub lock_at : Machine → ℕ → Lock
lock_at m l = get_or m.locks l free_lock

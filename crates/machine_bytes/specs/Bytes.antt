-- A machine as 2,950 bytes, numbers high byte first: setup 6, then 16 CPUs of 14, 32 threads of 13 and 128 locks of 18.
use Rattle.machine.specs.declared.ThreadId.{ThreadId}
use Rattle.machine.specs.declared.CpuId.{CpuId}
use Rattle.std.specs.Prelude.{
  ℕ,
  zero,
  suc,
  ◌+◌,
  Bool,
  cond,
  List,
  [],
  ◌∷◌,
  ◌++◌,
  eqb,
  ltb,
  ℤ,
  length,
  get_or,
  drop,
  Option,
  None,
  Some,
  is_some,
  unwrap_or,
  option_map,
}
use Rattle.error.specs.Codes.{OK, ENOMEM}
use Rattle.error.specs.Answer.{Answer, answer}
use Rattle.words.specs.HighFirst.{high_first, from_high_first}
use Rattle.words.specs.Signed.{to_signed, from_signed}
use Rattle.machine.specs.State.{cpu_slots, thread_count, lock_count, not_made}
use Rattle.machine.specs.declared.Setup.{Setup}
use Rattle.machine.specs.declared.Cpu.{Cpu}
use Rattle.machine.specs.declared.Thread.{Thread}
use Rattle.machine.specs.declared.Lock.{Lock}
use Rattle.machine.specs.declared.Machine.{Machine}

-- How many bytes a machine has.
abbrev pub machine_size : ℕ
machine_size = 2950

-- A yes or no, 1 byte: yes is written as 1, no as 0.
unfoldable pub yes_bytes : Bool → List ℕ
yes_bytes holds = cond holds 1 0 ∷ []

-- A byte says yes exactly if it is 1. Past the end every byte is 0.
unfoldable pub yes_at : List ℕ → ℕ → Bool
yes_at bs at = eqb (get_or bs at 0) 1

-- A number, 4 bytes.
unfoldable pub four_bytes : ℕ → List ℕ
four_bytes n = high_first 4 n

-- The number in the 4 bytes from a place on.
unfoldable pub four_at : List ℕ → ℕ → ℕ
four_at bs at = from_high_first (get_or bs at 0 ∷ get_or bs (at + 1) 0 ∷ get_or bs (at + 2) 0 ∷ get_or bs (at + 3) 0 ∷ [])

-- A number, 8 bytes.
unfoldable pub eight_bytes : ℕ → List ℕ
eight_bytes n = high_first 8 n

-- The number in the 8 bytes from a place on.
unfoldable pub eight_at : List ℕ → ℕ → ℕ
eight_at bs at =
    from_high_first
    (get_or bs at 0 ∷ get_or bs (at + 1) 0 ∷ get_or bs (at + 2) 0 ∷ get_or bs (at + 3) 0
    ∷ get_or bs (at + 4) 0 ∷ get_or bs (at + 5) 0 ∷ get_or bs (at + 6) 0 ∷ get_or bs (at + 7) 0 ∷ [])

-- A signed number, 4 bytes, in two's complement.
abbrev pub signed_bytes : ℤ → List ℕ
signed_bytes z = four_bytes (from_signed 31 z)

-- The signed number in the 4 bytes from a place on.
abbrev pub signed_at : List ℕ → ℕ → ℤ
signed_at bs at = to_signed 31 (four_at bs at)

-- A number that may be missing, 5 bytes: whether it is there 1, the number 4. What is missing is written with the number 0.
abbrev pub tag_bytes : Option ℕ → List ℕ
tag_bytes t = yes_bytes (is_some t) ++ four_bytes (unwrap_or t 0)

-- What may be missing, in the 5 bytes from a place on. The number of what is missing is ignored.
abbrev pub tag_at : List ℕ → ℕ → Option ℕ
tag_at bs at = cond (yes_at bs at) (Some (four_at bs (at + 1))) None

-- The number of the thread that a CPU runs, which may be missing.
abbrev pub tag_of_current : Option ThreadId → Option ℕ
tag_of_current current = option_map (λ t. t.0) current

-- The thread that a CPU runs.
abbrev pub current_of : Option ℕ → Option ThreadId
current_of number = option_map (λ n. record { 0 = n }) number

-- The number of the CPU on which a thread runs, which may be missing.
abbrev pub tag_of_place : Option CpuId → Option ℕ
tag_of_place place = option_map (λ c. c.0) place

-- The CPU on which a thread runs.
abbrev pub place_of : Option ℕ → Option CpuId
place_of number = option_map (λ n. record { 0 = n }) number

-- Setup, 6 bytes: n 4, pin-only 1, wide 1.
unfoldable pub setup_bytes : Setup → List ℕ
setup_bytes s = four_bytes s.n ++ (yes_bytes s.pin_only ++ yes_bytes s.wide)

-- The setup in front of bytes.
unfoldable pub setup_of : List ℕ → Setup
setup_of bs = record { n = four_at bs 0; pin_only = yes_at bs 4; wide = yes_at bs 5 }

-- A CPU, 14 bytes: active 1, current 5, priority 4, hold 4.
unfoldable pub cpu_bytes : Cpu → List ℕ
cpu_bytes c = yes_bytes c.run.active ++ (tag_bytes (tag_of_current c.run.current) ++ (signed_bytes c.run.priority ++ four_bytes c.hold))

-- The CPU in front of bytes.
unfoldable pub cpu_of : List ℕ → Cpu
cpu_of bs =
    record {
      run = record { active = yes_at bs 0; current = current_of (tag_at bs 1); priority = signed_at bs 6 };
      hold = four_at bs 10;
    }

-- A thread, 13 bytes: mask 4, priority 4, place 5.
unfoldable pub thread_bytes : Thread → List ℕ
thread_bytes t = four_bytes t.mask ++ (signed_bytes t.priority ++ tag_bytes (tag_of_place t.place))

-- The thread in front of bytes.
unfoldable pub thread_of : List ℕ → Thread
thread_of bs = record { mask = four_at bs 0; priority = signed_at bs 4; place = place_of (tag_at bs 8) }

-- A lock, 18 bytes: owner 5, depth 4, irq flag 1, word 8.
unfoldable pub lock_bytes : Lock → List ℕ
lock_bytes l =
    tag_bytes l.state.owner
    ++ (four_bytes l.state.nest_count ++ (yes_bytes l.state.irq_saved ++ eight_bytes l.word))

-- The lock in front of bytes.
unfoldable pub lock_of : List ℕ → Lock
lock_of bs =
    record {
      state = record { owner = tag_at bs 0; nest_count = four_at bs 5; irq_saved = yes_at bs 9 };
      word = eight_at bs 10;
    }

-- The bytes of each element, one behind the other.
unfoldable pub each_bytes : {A : Type 0} → (A → List ℕ) → List A → List ℕ
each_bytes write [] = []
each_bytes write (a ∷ rest) = write a ++ each_bytes write rest

-- So many elements in front of bytes, each of the same size.
unfoldable pub each_of : {A : Type 0} → (List ℕ → A) → ℕ → ℕ → List ℕ → List A
each_of read size zero bs = []
each_of read size (suc count) bs = read bs ∷ each_of read size count (drop size bs)

-- The bytes of a machine.
unfoldable pub machine_bytes : Machine → List ℕ
machine_bytes m =
    setup_bytes m.setup ++ (each_bytes cpu_bytes m.cpus ++ (each_bytes thread_bytes m.threads ++ each_bytes lock_bytes m.locks))

-- The machine in front of bytes. Every list of bytes has one.
unfoldable pub machine_of : List ℕ → Machine
machine_of bs =
    record {
      setup = setup_of bs;
      cpus = each_of cpu_of 14 cpu_slots (drop 6 bs);
      threads = each_of thread_of 13 thread_count (drop 230 bs);
      locks = each_of lock_of 18 lock_count (drop 646 bs);
    }

-- Reading: under 2,950 bytes are EINVAL, with the fresh machine of n 1; bytes past the machine's are not looked at.
unfoldable pub reading : List ℕ → Answer Machine
reading bs = cond (ltb (length bs) machine_size) not_made (answer OK (machine_of bs))

-- The code of writing a machine into so much room: ENOMEM under 2,950 bytes.
unfoldable pub put_code : ℕ → ℤ
put_code room = cond (ltb room machine_size) ENOMEM OK

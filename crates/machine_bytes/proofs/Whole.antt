-- A machine's bytes: how many there are, how they are stored, that room too short stays, and that a machine comes back. Assumes nothing.
use mathlib.Core.Path.{◌≡◌, sym, ap, ◌∙◌}
use mathlib.Core.List.{List, ◌++◌, append_assoc}
use Prim.Native.Nat.{ℕ, ◌≤◌, ◌<◌}
use native.Mathlib.Nat.{zero-add}
use native.Mathlib.Omega.{arith}
use lib.IntN.{ℤ}
use lib.ListN.{length, drop, length-append}
use lib.Seq.{sets, sets-eq, drop_at}
use borrow.Author.Tests.{lt-ltb, le-ltb}
use Rattle.error.specs.Codes.{OK, ENOMEM}
use Rattle.high_first.specs.Place.{placed}
use Rattle.high_first.proofs.Placed.{stays, in_front}
use Rattle.machine.specs.State.{cpu_slots, thread_count, lock_count}
use Rattle.machine.specs.declared.Setup.{Setup}
use Rattle.machine.specs.declared.Cpu.{Cpu}
use Rattle.machine.specs.declared.Thread.{Thread}
use Rattle.machine.specs.declared.Lock.{Lock}
use Rattle.machine.specs.declared.Machine.{Machine}
use Rattle.machine_bytes.specs.Bytes.{
  machine_size,
  setup_bytes,
  setup_of,
  cpu_bytes,
  cpu_of,
  thread_bytes,
  thread_of,
  lock_bytes,
  lock_of,
  each_bytes,
  machine_bytes,
  machine_of,
  put_code,
}
use Rattle.machine_bytes.specs.Sizes.{length_setup, length_cpu, length_thread, length_lock}
use Rattle.machine_bytes.proofs.Each.{length_each, Back}
use Rattle.machine_bytes.proofs.Stores.{four_runs}

-- What a contract says of the code, the room after the call, the number of bytes, and reading back.
abbrev pub Written : Machine → List ℕ → ℤ → List ℕ → Type 0
Written m room code after =
    (code ≡ put_code (length room)) × ((after ≡ placed 0 (machine_bytes m) room) × ((length (machine_bytes m) ≡ machine_size)
    × ((machine_size ≤ length room → (rest : List ℕ) → machine_of (machine_bytes m ++ rest) ≡ m)
    × (machine_size ≤ length room → machine_of after ≡ m))))

-- An array of the type has so many elements.
pub record Lengths (m : Machine) : Type 0 where
  pub cpus : length m.cpus ≡ cpu_slots
  pub threads : length m.threads ≡ thread_count
  pub locks : length m.locks ≡ lock_count

-- Every part of a machine comes back from its bytes.
pub record PartsBack (m : Machine) : Type 0 where
  pub setup : (rest : List ℕ) → setup_of (setup_bytes m.setup ++ rest) ≡ m.setup
  pub cpus : Back cpu_bytes cpu_of 14 m.cpus cpu_slots
  pub threads : Back thread_bytes thread_of 13 m.threads thread_count
  pub locks : Back lock_bytes lock_of 18 m.locks lock_count

same_machine : (m : Machine) {s : Setup} {cs : List Cpu} {ts : List Thread} {ls : List Lock} → s ≡ m.setup → cs ≡ m.cpus → ts ≡ m.threads
    → ls ≡ m.locks → record { setup = s; cpus = cs; threads = ts; locks = ls } ≡ m
same_machine m e f g h = rw (e, f, g, h)

module _ (m : Machine) (long : Lengths m) where
  -- The bytes of the parts: the setup, the CPUs, the threads and the locks.
  abbrev ss : List ℕ
  ss = setup_bytes m.setup

  abbrev cs : List ℕ
  cs = each_bytes cpu_bytes m.cpus

  abbrev ts : List ℕ
  ts = each_bytes thread_bytes m.threads

  abbrev ls : List ℕ
  ls = each_bytes lock_bytes m.locks

  -- Where the threads begin, and the locks.
  to_threads : length (ss ++ cs) ≡ 230
  to_threads =
      length-append ss cs ∙ (let n = length_setup m.setup in let k = length_each cpu_bytes 14 length_cpu m.cpus in omega (arith, long.cpus))

  to_locks : length (ss ++ (cs ++ ts)) ≡ 646
  to_locks =
      ap length (sym (append_assoc ss cs ts)) ∙ length-append (ss ++ cs) ts
      ∙ (let n = to_threads in let k = length_each thread_bytes 13 length_thread m.threads in omega (arith, long.threads))

  in_parts : (ss ++ (cs ++ ts)) ++ ls ≡ machine_bytes m
  unfolding machine_bytes
  in_parts = simp append_assoc

  pub length_machine : length (machine_bytes m) ≡ machine_size
  length_machine =
      ap length (sym in_parts) ∙ length-append (ss ++ (cs ++ ts)) ls
      ∙ (let n = to_locks in let k = length_each lock_bytes 18 length_lock m.locks in omega (arith, long.locks))

  -- Its parts stored behind one another.
  pub machine_stored : (room : List ℕ) {w x y z : List ℕ} → w ≡ sets room 0 ss → x ≡ sets w 6 cs → y ≡ sets x 230 ts → z ≡ sets y 646 ls
      → z ≡ sets room 0 (machine_bytes m)
  unfolding machine_bytes
  machine_stored room e f g h = four_runs room 0 ss cs ts 6 230 (length_setup m.setup) to_threads ls 646 to_locks e f g h

  -- A machine whose parts come back comes back.
  pub machine_back : PartsBack m → (rest : List ℕ) → machine_of (machine_bytes m ++ rest) ≡ m
  unfolding machine_of machine_bytes
  machine_back back rest =
      let whole : (ss ++ (cs ++ (ts ++ ls))) ++ rest ≡ ss ++ (cs ++ (ts ++ (ls ++ rest))) = simp append_assoc in
      let at-threads : ss ++ (cs ++ (ts ++ (ls ++ rest))) ≡ (ss ++ cs) ++ (ts ++ (ls ++ rest)) = sym (append_assoc ss cs (ts ++ (ls ++ rest))) in
      let at-locks : ss ++ (cs ++ (ts ++ (ls ++ rest))) ≡ (ss ++ (cs ++ ts)) ++ (ls ++ rest) = sym (simp append_assoc) in
      rw whole
      (same_machine m (back.setup (cs ++ (ts ++ (ls ++ rest))))
      (rw (drop_at ss (cs ++ (ts ++ (ls ++ rest))) 6 (length_setup m.setup)) (back.cpus (ts ++ (ls ++ rest))))
      (rw (at-threads, drop_at (ss ++ cs) (ts ++ (ls ++ rest)) 230 to_threads) (back.threads (ls ++ rest)))
      (rw (at-locks, drop_at (ss ++ (cs ++ ts)) (ls ++ rest) 646 to_locks) (back.locks rest)))

  -- Room that is too short stays.
  pub no_room : (room : List ℕ) → length room < machine_size → Written m room ENOMEM room
  unfolding put_code
  no_room room short =
      let n = length_machine in
      let same = sym (stays (machine_bytes m) room 0 (omega arith)) in
      (rw (lt-ltb (length room) machine_size short), (same, (n, ((λ enough. absurd (omega arith)), (λ enough. absurd (omega arith))))))

  -- Room that has the bytes.
  pub enough_room : (room after : List ℕ) → machine_size ≤ length room → after ≡ sets room 0 (machine_bytes m) → PartsBack m → Written m room OK after
  unfolding put_code
  enough_room room after enough e back =
      let n = length_machine in
      let fits : length (machine_bytes m) ≤ length room = omega arith in
      let front = in_front (machine_bytes m) room fits in
      let stored : after ≡ placed 0 (machine_bytes m) room = e ∙ is_placed fits in
      let again = ap machine_of (stored ∙ front) ∙ machine_back back (drop (length (machine_bytes m)) room) in
      (rw (le-ltb (length room) machine_size enough), (stored, (n, ((λ _. machine_back back), (λ _. again)))))
    where
      is_placed : length (machine_bytes m) ≤ length room → sets room 0 (machine_bytes m) ≡ placed 0 (machine_bytes m) room
      is_placed fits = sets-eq (machine_bytes m) room 0 (rw zero-add fits) ∙ rw zero-add (sym (in_front (machine_bytes m) room fits))

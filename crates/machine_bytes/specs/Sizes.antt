-- How many bytes each part of a machine has.
use Rattle.std.specs.Prelude.{◌≡◌, refl, ℕ, ℤ, Bool, length, Option}
use Rattle.words.specs.Signed.{from_signed}
use Rattle.machine.specs.declared.Setup.{Setup}
use Rattle.machine.specs.declared.Cpu.{Cpu}
use Rattle.machine.specs.declared.Thread.{Thread}
use Rattle.machine.specs.declared.Lock.{Lock}
use Rattle.machine_bytes.specs.Bytes.{
  yes_bytes,
  four_bytes,
  eight_bytes,
  signed_bytes,
  tag_bytes,
  setup_bytes,
  cpu_bytes,
  thread_bytes,
  lock_bytes,
}

pub length_yes : (b : Bool) → length (yes_bytes b) ≡ 1
unfolding yes_bytes
length_yes b = refl

pub length_four : (n : ℕ) → length (four_bytes n) ≡ 4
unfolding four_bytes
length_four n = refl

pub length_eight : (n : ℕ) → length (eight_bytes n) ≡ 8
unfolding eight_bytes
length_eight n = refl

pub length_signed : (z : ℤ) → length (signed_bytes z) ≡ 4
length_signed z = length_four (from_signed 31 z)

pub length_tag : (t : Option ℕ) → length (tag_bytes t) ≡ 5
unfolding four_bytes yes_bytes
length_tag t = refl

pub length_setup : (s : Setup) → length (setup_bytes s) ≡ 6
unfolding setup_bytes four_bytes yes_bytes
length_setup s = refl

pub length_cpu : (c : Cpu) → length (cpu_bytes c) ≡ 14
unfolding cpu_bytes four_bytes yes_bytes
length_cpu c = refl

pub length_thread : (t : Thread) → length (thread_bytes t) ≡ 13
unfolding thread_bytes four_bytes yes_bytes
length_thread t = refl

pub length_lock : (l : Lock) → length (lock_bytes l) ≡ 18
unfolding lock_bytes four_bytes eight_bytes yes_bytes
length_lock l = refl

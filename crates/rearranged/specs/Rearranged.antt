-- What a rearrangement of a log is. Position k of the new log has what position π k of the old one has.
use Rattle.std.specs.Prelude.{◌≡◌, true, false, List, ◌∷◌, ℕ, ◌*◌, ◌/◌, ◌<◌, length, take, drop}
use Rattle.error.specs.Codes.{is_ok}
use Rattle.order.specs.Clash.{Clash}
use Rattle.order.specs.Reordered.{Reordered}
use Rattle.machine.specs.declared.Setup.{Setup}
use Rattle.machine.specs.declared.Machine.{Machine}
use Rattle.operations.specs.Log.{record_at, state_at, answer_at}
use Rattle.runner.specs.Run.{ran, ran_room}
use Rattle.program.specs.Program.{input_code, respond_size, respond_room}
use Rattle.rearranged.specs.Clash.{footprint}

-- A log of `count` records is rearranged on a machine of this setup: two records that clash keep their order.
abbrev pub Rearranged : Setup → ℕ → List ℕ → List ℕ → (ℕ → ℕ) → Type 0
Rearranged s count old new π = Reordered (λ a b. Clash (footprint s a) (footprint s b)) count (record_at old) (record_at new) π

-- Two logs of `count` records come to the same on a machine: the end machines are equal, and answer k of the new log is answer π k of the old.
pub record SameRun (m : Machine) (count : ℕ) (old new : List ℕ) (π : ℕ → ℕ) : Type 0 where
  pub state : state_at m new count ≡ state_at m old count
  pub each : (k : ℕ) → k < count → answer_at m new k ≡ answer_at m old (π k)

-- The place of answer k in a room: eight bytes.
abbrev pub place : List ℕ → ℕ → List ℕ
place room k = take 8 (drop (k * 8) room)

-- Two logs come to the same in the runner's bytes: the same code and machine, and where the log is run, the eight bytes of each record's answer
-- are those that it had. A refused log leaves the room in both.
pub record SameBytes (m : Machine) (old new room : List ℕ) (π : ℕ → ℕ) : Type 0 where
  pub end : ran m new (length room) ≡ ran m old (length room)
  pub each : is_ok (ran m old (length room)).code ≡ true → (k : ℕ) → k < length old / 12 → place (ran_room m new room) k ≡ place (ran_room m old room) (π k)
  pub refused : is_ok (ran m old (length room)).code ≡ false → ran_room m new room ≡ ran_room m old room

-- The same of the program's bytes, from a setup byte.
pub record SameResponse (setup : ℕ) (old new room : List ℕ) (π : ℕ → ℕ) : Type 0 where
  pub size : respond_size (setup ∷ new) (length room) ≡ respond_size (setup ∷ old) (length room)
  pub each : is_ok (input_code (setup ∷ old) (length room)) ≡ true → (k : ℕ) → k < length old / 12
      → place (respond_room (setup ∷ new) room) k ≡ place (respond_room (setup ∷ old) room) (π k)
  pub refused : is_ok (input_code (setup ∷ old) (length room)) ≡ false → respond_room (setup ∷ new) room ≡ respond_room (setup ∷ old) room

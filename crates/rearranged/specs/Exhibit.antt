-- Two CPUs bring a thread each, on a machine of two CPUs: the records of the one, then those of the other; and interleaved.
use Rattle.std.specs.Prelude.{Bool, false, List, ◌∷◌, [], ◌++◌, ℕ, get_or}
use Rattle.machine.specs.declared.Setup.{Setup}
use Rattle.record.specs.Record.{packed}

-- Two CPUs with narrow tags, with either pin-only setting.
abbrev pub two_cpus : Bool → Setup
two_cpus pinOnly = record { n = 2; pin_only = pinOnly; wide = false }

-- Up of CPU c, and put of a thread there.
abbrev pub bring_up : ℕ → List ℕ
bring_up c = packed 0 c 0 0 0 0

abbrev pub bring : ℕ → ℕ → List ℕ
bring c t = packed 2 c t 0 0 0

abbrev pub one_by_one : List ℕ
one_by_one = bring_up 0 ++ (bring 0 3 ++ (bring_up 1 ++ bring 1 4))

abbrev pub interleaved : List ℕ
interleaved = bring_up 1 ++ (bring_up 0 ++ (bring 1 4 ++ bring 0 3))

-- Where each record of `interleaved` stands in `one_by_one`.
abbrev pub came : ℕ → ℕ
came k = get_or (2 ∷ 0 ∷ 3 ∷ 1 ∷ []) k 0

-- CPU 0's two records turned round: put before up. They clash, and the answer to the put changes.
abbrev pub turned_round : List ℕ
turned_round = bring 0 3 ++ (bring_up 0 ++ (bring_up 1 ++ bring 1 4))

-- Where each record of `turned_round` stands in `one_by_one`.
abbrev pub turned : ℕ → ℕ
turned k = get_or (1 ∷ 0 ∷ 2 ∷ 3 ∷ []) k 0

-- A record that is accepted and one that is refused, of two CPUs, in either order: up of CPU 0, and down of CPU 1, which is down.
abbrev pub up_first : List ℕ
up_first = bring_up 0 ++ packed 1 1 0 0 0 0

abbrev pub down_first : List ℕ
down_first = packed 1 1 0 0 0 0 ++ bring_up 0

-- Where each record of `down_first` stands in `up_first`.
abbrev pub swapped : ℕ → ℕ
swapped k = get_or (1 ∷ 0 ∷ []) k 0

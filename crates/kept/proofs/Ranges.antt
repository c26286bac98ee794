-- The request of any bytes names a CPU, a thread and a lock of a well-formed machine. Assumes nothing.
use mathlib.Core.List.{List}
use Prim.Native.Nat.{ℕ}
use Rattle.machine.specs.declared.Machine.{Machine}
use Rattle.machine.proofs.Size.{says_size}
use Rattle.record.specs.Record.{request_of}
use Rattle.record.proofs.Range.{Ranged, request_ranged}
use Rattle.wellformed.proofs.Facts.{WellFormed}

-- What bytes ask of a well-formed machine is in range.
pub asks_in_range : (m : Machine) → WellFormed m → (bytes : List ℕ) → Ranged m.setup (request_of m.setup bytes)
asks_in_range m w bytes = request_ranged m.setup (says_size m.setup w.size) bytes

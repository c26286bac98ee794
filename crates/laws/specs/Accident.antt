-- The accident that all this was bought for, as a log of ten records on a machine of two CPUs: thread 3 comes onto CPU 0 and takes lock 7 three
-- levels deep. It is stopped, and cannot be taken off: unwind, take. Thread 4 comes onto the CPU and takes lock 7. It is computed
-- (proofs/Accident.antt), and stored among the logs that the gate replays.
use Rattle.std.specs.Prelude.{List, ◌++◌, ℕ, take, drop}
use Rattle.machine.specs.State.{setup}
use Rattle.machine.specs.declared.Machine.{Machine}
use Rattle.operations.specs.Log.{state_at}
use Rattle.laws.specs.Marked.{opened, flagged, zeros, busy}

-- Thread 3 comes and nests: up, put, an acquire, and two nested ones.
unfoldable pub comes : List ℕ
comes = opened 0x00 0 0 ++ (opened 0x20 3 0 ++ (opened 0x40 0 7 ++ (flagged 0x40 0 7 ++ flagged 0x40 0 7)))

-- It is stopped: take, unwind, take.
unfoldable pub stopped : List ℕ
stopped = opened 0x30 3 0 ++ (opened 0xc0 3 0 ++ opened 0x30 3 0)

-- The next job, thread 4: put, acquire.
unfoldable pub following : List ℕ
following = opened 0x20 4 0 ++ opened 0x40 0 7

-- The whole log.
unfoldable pub accident : List ℕ
accident = comes ++ (stopped ++ following)

-- Three deep; the first take is EBUSY, and the unwind says that 3 levels were held; the next job's acquire is at depth 1.
unfoldable pub accident_answers : List ℕ
accident_answers =
    zeros 0 ++ (zeros 0 ++ (zeros 1 ++ (zeros 2 ++ (zeros 3 ++ (busy ++ (zeros 3 ++ (zeros 0 ++ (zeros 0 ++ zeros 1))))))))

-- The machine after it.
unfoldable pub accident_end : Machine
accident_end = state_at (setup 0x20).value accident 10

-- What a controller claims whose unwinding gave back one level of the three, and said so: the answer to record 6 has value 1.
unfoldable pub gave_back_one : List ℕ
gave_back_one = take 48 accident_answers ++ (zeros 1 ++ drop 56 accident_answers)

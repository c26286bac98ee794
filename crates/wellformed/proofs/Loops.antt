-- What the loops say, joined and put in 01's order. Assumes nothing.
use Rattle.std.proofs.Common.{◌≡◌, ◌&&◌}
use Rattle.machine.specs.State.{cpu_slots, thread_count, lock_count}
use Rattle.machine.specs.declared.Machine.{Machine}
use Rattle.words.specs.Below.{all_below}
use Rattle.wellformed.specs.WellFormed.{
  size_ok,
  slot_ok,
  lock_ok,
  hold_ok,
  current_ok,
  place_ok,
  idle_ok,
  priority_ok,
  mask_ok,
  pin_ok,
  cpu_ok,
  thread_ok,
  well_formed,
}
use Rattle.wellformed.proofs.Tests.{all_three, all_four, in_order}

pub loops_say :
    (m : Machine)
    → well_formed m
    ≡ (((size_ok m && all_below (cpu_ok m.setup m.cpus m.threads) cpu_slots)
    && (all_below (lock_ok m) lock_count && all_below (hold_ok m) cpu_slots))
    && all_below (thread_ok m.setup m.cpus m.threads) thread_count)
unfolding well_formed
loops_say m =
    let cpus = all_three (slot_ok m) (current_ok m) (idle_ok m) cpu_slots in
    let threads = all_four (place_ok m) (priority_ok m) (mask_ok m) (pin_ok m) thread_count in
    cc (in_order _ _ _ _ _ _ _ _)

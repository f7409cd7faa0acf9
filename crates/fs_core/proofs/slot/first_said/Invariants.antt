-- no call up to the index has its answer and nothing in flight
use Rattle.std.proofs.Common.{◌≡◌, drop}
use Rattle.fs_core.specs.Asks.{first_said}
use Rattle.fs_core.proofs.slot.first_said.Given as goal

abbrev pub invariant-loop-slot : goal.invariant-loop-slot
invariant-loop-slot l = first_said l.flights l.slots ≡ first_said l.flights (drop l.slot-index l.slots)

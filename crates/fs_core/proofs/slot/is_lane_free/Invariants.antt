-- no call up to the index runs in the lane
use Rattle.std.proofs.Common.{◌≡◌, drop}
use Rattle.fs_core.specs.Parts.{is_lane_free}
use Rattle.fs_core.proofs.slot.is_lane_free.Given as goal

abbrev pub invariant-loop-slot : goal.invariant-loop-slot
invariant-loop-slot l = is_lane_free l.lane l.slots ≡ is_lane_free l.lane (drop l.slot-index l.slots)

-- no call up to the index has the number
use Rattle.std.proofs.Common.{◌≡◌, drop}
use Rattle.fs_core.specs.Parts.{slot_with}
use Rattle.fs_core.proofs.slot.slot_with.Given as goal

abbrev pub invariant-loop-slot : goal.invariant-loop-slot
invariant-loop-slot l = slot_with l.number l.slots ≡ slot_with l.number (drop l.slot-index l.slots)

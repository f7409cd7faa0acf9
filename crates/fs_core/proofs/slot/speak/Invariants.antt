-- no call up to the index has the number
use Rattle.std.proofs.Common.{◌≡◌, ◌++◌, take, drop}
use Rattle.fs_core.specs.Parts.{on_slot}
use Rattle.fs_core.specs.Steps.{spoken}
use Rattle.fs_core.proofs.slot.speak.Given as goal

abbrev pub invariant-loop-slot : goal.invariant-loop-slot
invariant-loop-slot l =
    (l.slots ≡ l.fn.slots)
    × (on_slot l.number spoken l.fn.slots ≡ take l.slot-index l.fn.slots ++ on_slot l.number spoken (drop l.slot-index l.fn.slots))

-- no call up to the index has the number
use Rattle.std.proofs.Common.{◌≡◌, ◌++◌, take, drop}
use Rattle.fs_core.specs.Parts.{on_slot}
use Rattle.fs_core.specs.Steps.{advanced_slot}
use Rattle.fs_core.proofs.slot.advance.Given as goal

abbrev pub invariant-loop-slot : goal.invariant-loop-slot
invariant-loop-slot l =
    (l.slots ≡ l.fn.slots)
    × (on_slot l.number (advanced_slot l.options l.reply) l.fn.slots
    ≡ take l.slot-index l.fn.slots ++ on_slot l.number (advanced_slot l.options l.reply) (drop l.slot-index l.fn.slots))

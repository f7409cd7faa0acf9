use Rattle.std.proofs.Common.{rules}
use Rattle.fs_core.specs.Steps.{spoken}
use Rattle.fs_core.proofs.Edits.{on_slot_there}
use Rattle.fs_core.proofs.slot.speak.Goals as goal

pub returns-then-slot-number : goal.returns-then-slot-number
returns-then-slot-number c =
    rw c.loop-slot.invariant.0
    (on_slot_there c.args.number spoken c.args.slots.now c.loop-slot.slot-index c.slot-item.result c.loop-slot-test.true
    c.loop-slot.invariant.1 (search rules))

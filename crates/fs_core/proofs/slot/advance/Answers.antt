use Rattle.std.proofs.Common.{◌∙◌, ap₂, sym, rules, set, List, ℕ, get_or}
use Rattle.fs_core.specs.declared.slot.Slot.{Slot}
use Rattle.fs_core.specs.declared.stat.Progress.{Progress}
use Rattle.fs_core.specs.Steps.{advanced_slot}
use Rattle.fs_core.proofs.Edits.{on_slot_there}
use Rattle.fs_core.proofs.slot.advance.Goals as goal

pub returns-then-slot-number : goal.returns-then-slot-number
returns-then-slot-number c =
    let slots : List Slot = c.args.slots.now in
    let i : ℕ = c.loop-slot.slot-index in
    rw c.loop-slot.invariant.0
    (ap₂ (λ (path : List ℕ) (progress : Progress). set slots i (record (get_or slots i c.slot-item.result) { stat = record { path = path; progress = progress } }))
    (rw (sym c.loop-slot.invariant.0) c.reply.ensures.path) (rw (sym c.loop-slot.invariant.0) c.reply.ensures.progress)
    ∙ on_slot_there c.args.number (advanced_slot c.args.options.now c.args.reply.now) slots i c.slot-item.result c.loop-slot-test.true
    c.loop-slot.invariant.1 (search rules))

use Rattle.std.proofs.Common.{rules, ◌≡◌, ◌<◌, sym, subst, List, length}
use Rattle.std.proofs.lemmas.Result.{on_ok_weaker}
use Rattle.fs_core.specs.declared.slot.Slot.{Slot}
use Rattle.fs_core.specs.Parts.{slots_but}
use Rattle.fs_core.proofs.Composed.{said_fewer}
use Rattle.fs_core.proofs.MarkingGoing.{said_puts}
use Rattle.fs_core.proofs.machine.Core.answer.Goals as goal

pub returns-clause-puts : goal.returns-clause-puts
returns-clause-puts c =
    on_ok_weaker c.put.result (λ is. said_puts c.args.self.now c.put.new.self c.args.number c.args.outcome c.requires.said (search rules)) c.put.ensures.ok

pub returns-clause-fewer : goal.returns-clause-fewer
returns-clause-fewer c =
    on_ok_weaker c.put.result (λ is.
    let left : c.put.new.self.kept.slots ≡ slots_but c.args.number c.args.self.now.kept.slots = search rules in
    subst (λ (slots : List Slot). length slots < length c.args.self.now.kept.slots) (sym left)
    (said_fewer c.args.self.now.kept.flights c.args.self.now.kept.slots c.args.number c.args.outcome c.requires.said)) c.put.ensures.ok

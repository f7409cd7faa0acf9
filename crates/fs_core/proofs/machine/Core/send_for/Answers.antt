use Rattle.std.proofs.Common.{rules, ◌≡◌, true, false, Some}
use Rattle.fs_core.specs.Asks.{asking_with}
use Rattle.fs_core.proofs.Composed.{asking_waits}
use Rattle.fs_core.proofs.machine.Core.send_for.Goals as goal

pub send_first-requires-clause-waits : goal.send_first-requires-clause-waits
send_first-requires-clause-waits c =
    let asks : asking_with c.args.number c.args.self.now.kept.flights c.args.self.now.kept.slots ≡ Some true = search rules in
    asking_waits c.args.number c.args.self.now.kept true asks

pub send_next-requires-clause-waits : goal.send_next-requires-clause-waits
send_next-requires-clause-waits c =
    let asks : asking_with c.args.number c.args.self.now.kept.flights c.args.self.now.kept.slots ≡ Some false = search rules in
    asking_waits c.args.number c.args.self.now.kept false asks

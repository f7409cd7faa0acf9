use Rattle.std.proofs.lemmas.Result.{on_ok_weaker}
use Rattle.fs_core.proofs.Composed.{if_err}
use Rattle.fs_core.proofs.MarkingGoing.{mount_fails}
use Rattle.fs_core.proofs.SendingParts.{mount_puts}
use Rattle.fs_core.proofs.machine.Core.mount_by.Goals as goal

pub returns-clause-puts : goal.returns-clause-puts
returns-clause-puts c =
    on_ok_weaker c.send_aside.result
    (mount_puts c.args.self.now c.send_aside.new.self c.args.request c.requires.asks c.requires.written c.requires.no_flight) c.send_aside.ensures.sends

pub returns-clause-err : goal.returns-clause-err
returns-clause-err c =
    if_err c.send_aside.result (λ f. mount_fails c.args.self.now c.args.request f c.requires.no_flight c.requires.asks) c.send_aside.ensures.err

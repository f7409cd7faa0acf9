use Rattle.fs_core.proofs.Composed.{leave_room}
use Rattle.fs_core.proofs.MarkingGoing.{leave_fails}
use Rattle.fs_core.proofs.SendingParts.{leave_puts}
use Rattle.fs_core.proofs.machine.Core.leave_by.Goals as goal

pub send_aside-requires : goal.send_aside-requires
send_aside-requires c = record { room = leave_room c.args.self.now.kept.ended c.args.self.now.kept.phase c.args.request c.requires.asks }

pub returns-in-Ok-clause-puts : goal.returns-in-Ok-clause-puts
returns-in-Ok-clause-puts c =
    leave_puts c.args.self.now c.send_aside.new.self c.step_out.new.self c.args.request c.requires.asks c.requires.no_call c.requires.no_flight c.in-Ok.ensures.sends
    c.step_out.ensures

pub returns-in-Err-clause-err : goal.returns-in-Err-clause-err
returns-in-Err-clause-err c =
    leave_fails c.args.self.now c.args.request c.in-Err.fault c.requires.no_flight c.requires.no_call c.requires.asks c.in-Err.ensures.err

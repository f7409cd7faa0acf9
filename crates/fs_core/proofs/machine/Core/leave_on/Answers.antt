use Rattle.std.proofs.Common.{arith}
use Rattle.std.proofs.lemmas.Result.{on_ok_weaker}
use Rattle.fs_core.proofs.Putting.{puts_wider}
use Rattle.fs_core.proofs.machine.Core.leave_on.Goals as goal

pub returns-in-Some-clause-puts : goal.returns-in-Some-clause-puts
returns-in-Some-clause-puts c =
    on_ok_weaker c.leave_by.result (puts_wider 3 3 3 4 c.args.self.now c.leave_by.new.self (omega arith) (omega arith)) c.leave_by.ensures.puts

pub returns-in-None-clause-puts : goal.returns-in-None-clause-puts
returns-in-None-clause-puts c =
    on_ok_weaker c.leave_last.result (puts_wider 4 4 3 4 c.args.self.now c.leave_last.new.self (omega arith) (omega arith)) c.leave_last.ensures.puts

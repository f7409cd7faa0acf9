use Rattle.std.proofs.Common.{arith}
use Rattle.std.proofs.lemmas.Result.{on_ok_weaker}
use Rattle.fs_core.proofs.Composed.{if_err}
use Rattle.fs_core.proofs.Putting.{puts_then, stops_then}
use Rattle.fs_core.proofs.machine.Core.go_on_sent.Goals as goal

pub returns-in-Ok-clause-puts : goal.returns-in-Ok-clause-puts
returns-in-Ok-clause-puts c =
    on_ok_weaker c.leave_on.result
    (puts_then 3 3 4 c.args.self.now c.mount_on.new.self c.leave_on.new.self (omega arith) (omega arith) c.in-Ok.ensures.puts) c.leave_on.ensures.puts

pub returns-in-Ok-clause-err : goal.returns-in-Ok-clause-err
returns-in-Ok-clause-err c =
    if_err c.leave_on.result (λ f. stops_then 3 3 c.args.self.now c.mount_on.new.self f c.in-Ok.ensures.puts) c.leave_on.ensures.err

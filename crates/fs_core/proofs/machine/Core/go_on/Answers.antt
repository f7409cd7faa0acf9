use Rattle.std.proofs.Common.{arith}
use Rattle.std.proofs.lemmas.Result.{on_ok_weaker}
use Rattle.fs_core.proofs.Composed.{if_err}
use Rattle.fs_core.proofs.Putting.{puts_then, puts_wider, stops_then}
use Rattle.fs_core.proofs.machine.Core.go_on.Goals as goal

pub returns-in-Ok-clause-puts : goal.returns-in-Ok-clause-puts
returns-in-Ok-clause-puts c =
    on_ok_weaker c.go_on_answered.result
    (λ puts. puts_then 2 2 4 c.args.self.now c.answer_all.new.self c.go_on_answered.new.self (omega arith) (omega arith) c.in-Ok.ensures.puts
    (puts_wider 3 4 2 4 c.answer_all.new.self c.go_on_answered.new.self (omega arith) (omega arith) puts)) c.go_on_answered.ensures.puts

pub returns-in-Ok-clause-err : goal.returns-in-Ok-clause-err
returns-in-Ok-clause-err c =
    if_err c.go_on_answered.result (λ f. stops_then 2 2 c.args.self.now c.answer_all.new.self f c.in-Ok.ensures.puts) c.go_on_answered.ensures.err

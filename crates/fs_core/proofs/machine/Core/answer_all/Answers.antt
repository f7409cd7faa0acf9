use Rattle.std.proofs.Common.{arith}
use Rattle.fs_core.proofs.Putting.{puts_then}
use Rattle.fs_core.proofs.machine.Core.answer_all.Goals as goal

pub loop-number-preserved : goal.loop-number-preserved
loop-number-preserved c =
    puts_then 2 2 2 _ c.loop-number.self c.answer.new.self (omega arith) (omega arith) c.loop-number.invariant c.in_ok-answer.ensures.puts

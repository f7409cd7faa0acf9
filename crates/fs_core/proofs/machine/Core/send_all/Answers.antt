use Rattle.std.proofs.Common.{rules, arith, refl}
use Rattle.fs_core.proofs.Composed.{looked_on, all_looked}
use Rattle.fs_core.proofs.Putting.{puts_nothing, puts_then, stops_then}
use Rattle.fs_core.proofs.machine.Core.send_all.Goals as goal

pub loop-index-init : goal.loop-index-init
loop-index-init c = (puts_nothing 3 3 c.args.self.now, (λ empty. (refl, λ some. absurd (omega (arith, some)))), search rules)

pub loop-index-preserved : goal.loop-index-preserved
loop-index-preserved c = (
  puts_then 3 3 3 _ c.loop-index.self c.send_at.new.self (omega arith) (omega arith) c.loop-index.invariant.0 c.in-Ok.ensures.puts,
  looked_on c.loop-index.index _ c.loop-index.self c.send_at.new.self c.loop-index.invariant.1 c.in-Ok.ensures.looks,
  c.loop-index.invariant.2,
)

pub returns-clause-quiet : goal.returns-clause-quiet
returns-clause-quiet c =
    all_looked c.loop-index.index c.args.self.now c.loop-index.self (omega (arith, c.loop-index.invariant.2)) c.requires.answered c.loop-index.invariant.1

pub returns-in-Err-clause-err : goal.returns-in-Err-clause-err
returns-in-Err-clause-err c =
    stops_then 3 3 c.args.self.now c.loop-index.self c.in-Err.fault c.loop-index.invariant.0 c.in-Err.ensures.err

use Rattle.std.proofs.Common.{rules}
use Rattle.std.proofs.lemmas.Result.{on_ok_weaker}
use Rattle.fs_core.proofs.MarkingGoing.{begin_tells}
use Rattle.fs_core.proofs.machine.Core.begin_call.Goals as goal

pub returns-clause-tells : goal.returns-clause-tells
returns-clause-tells c =
    on_ok_weaker c.put.result
    (λ is. begin_tells c.args.self.now c.put.new.self c.args.number c.args.lane c.args.call c.in-Ok.stat c.requires.may c.in-Ok.ensures.rest c.in-Ok.ensures.first (search rules))
    c.put.ensures.ok

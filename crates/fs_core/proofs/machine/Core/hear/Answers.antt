use Rattle.std.proofs.Common.{refl}
use Rattle.std.proofs.lemmas.Result.{on_ok_weaker}
use Rattle.fs_core.specs.declared.input.Input.TheVariants as input
use Rattle.fs_core.proofs.Composed.{if_err}
use Rattle.fs_core.proofs.Putting.{moves_behind, stays_behind, stops_behind}
use Rattle.fs_core.proofs.machine.Core.hear.Goals as goal

pub returns-in-Ok-clause-goes : goal.returns-in-Ok-clause-goes
returns-in-Ok-clause-goes c =
    on_ok_weaker c.go_on.result (moves_behind (input.Frame c.args.frame.now) c.args.self.now c.land.new.self c.go_on.new.self refl c.in-Ok.ensures.comes) c.go_on.ensures.puts

pub returns-in-Ok-clause-stays : goal.returns-in-Ok-clause-stays
returns-in-Ok-clause-stays c =
    on_ok_weaker c.go_on.result (stays_behind (input.Frame c.args.frame.now) c.args.self.now c.land.new.self c.go_on.new.self c.in-Ok.ensures.comes) c.go_on.ensures.puts

pub returns-in-Ok-clause-why : goal.returns-in-Ok-clause-why
returns-in-Ok-clause-why c =
    if_err c.go_on.result (λ f. stops_behind (input.Frame c.args.frame.now) c.args.self.now c.land.new.self f c.in-Ok.ensures.comes) c.go_on.ensures.err

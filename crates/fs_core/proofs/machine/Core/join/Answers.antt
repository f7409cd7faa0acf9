use Rattle.std.proofs.Common.{refl}
use Rattle.std.proofs.lemmas.Result.{on_ok_weaker}
use Rattle.fs_core.specs.declared.input.Input.TheVariants as input
use Rattle.fs_core.specs.Event.{Comes}
use Rattle.fs_core.proofs.Composed.{if_err, comes_greeting}
use Rattle.fs_core.proofs.Putting.{moves_behind, stays_behind, stops_behind}
use Rattle.fs_core.proofs.machine.Core.join.Goals as goal

pub returns-clause-goes : goal.returns-clause-goes
returns-clause-goes c =
    let comes : Comes input.Joined c.args.self.now c.greet.new.self = comes_greeting c.args.self.now c.greet.new.self c.requires.apart c.greet.ensures in
    on_ok_weaker c.go_on.result (moves_behind input.Joined c.args.self.now c.greet.new.self c.go_on.new.self refl comes) c.go_on.ensures.puts

pub returns-clause-stays : goal.returns-clause-stays
returns-clause-stays c =
    let comes : Comes input.Joined c.args.self.now c.greet.new.self = comes_greeting c.args.self.now c.greet.new.self c.requires.apart c.greet.ensures in
    on_ok_weaker c.go_on.result (stays_behind input.Joined c.args.self.now c.greet.new.self c.go_on.new.self comes) c.go_on.ensures.puts

pub returns-clause-why : goal.returns-clause-why
returns-clause-why c =
    let comes : Comes input.Joined c.args.self.now c.greet.new.self = comes_greeting c.args.self.now c.greet.new.self c.requires.apart c.greet.ensures in
    if_err c.go_on.result (λ f. stops_behind input.Joined c.args.self.now c.greet.new.self f comes) c.go_on.ensures.err

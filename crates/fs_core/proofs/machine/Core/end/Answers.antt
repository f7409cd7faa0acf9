use Rattle.std.proofs.lemmas.Result.{on_ok_weaker}
use Rattle.fs_core.specs.declared.input.Input.TheVariants as input
use Rattle.fs_core.proofs.Composed.{if_err}
use Rattle.fs_core.proofs.MarkingGoing.{memory_fault}
use Rattle.fs_core.proofs.Putting.{moves_told, stays_told, stops_told}
use Rattle.fs_core.proofs.machine.Core.end.Goals as goal

pub returns-in-Ok-clause-goes : goal.returns-in-Ok-clause-goes
returns-in-Ok-clause-goes c =
    on_ok_weaker c.go_on.result (moves_told input.End c.args.self.now c.note_end.new.self c.go_on.new.self (λ v w is. is) c.in-Ok.ensures.tells) c.go_on.ensures.puts

pub returns-in-Ok-clause-stays : goal.returns-in-Ok-clause-stays
returns-in-Ok-clause-stays c =
    on_ok_weaker c.go_on.result (stays_told input.End c.args.self.now c.note_end.new.self c.go_on.new.self c.in-Ok.ensures.tells) c.go_on.ensures.puts

pub returns-in-Ok-clause-why : goal.returns-in-Ok-clause-why
returns-in-Ok-clause-why c =
    if_err c.go_on.result (λ f. stops_told input.End c.args.self.now c.note_end.new.self f (λ v w is. is) c.in-Ok.ensures.tells) c.go_on.ensures.err

pub returns-in-Err-clause-why : goal.returns-in-Err-clause-why
returns-in-Err-clause-why c = memory_fault input.End c.args.self.now c.in-Err.fault c.in-Err.ensures.err

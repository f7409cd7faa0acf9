use Rattle.std.proofs.Common.{refl, sym, subst}
use Rattle.fs_core.specs.declared.output.Output.{Output}
use Rattle.fs_core.specs.declared.output.Output.TheVariants as output
use Rattle.fs_top.specs.Steps.{RunsOn}
use Rattle.fs_top.proofs.Outputs.{runs_same, runs_told}
use Rattle.fs_top.proofs.output.carry.Goals as goal

pub returns-in-Send-clause-running : goal.returns-in-Send-clause-running
returns-in-Send-clause-running g c =
    subst (λ (o : Output). RunsOn o c.send.result c.args.running.now c.args.running.now) (sym c.in-Send.is)
    (runs_same (output.Send c.in-Send.frame) c.send.result c.args.running.now c.args.running.now refl)

pub returns-in-Marked-clause-running : goal.returns-in-Marked-clause-running
returns-in-Marked-clause-running g c =
    subst (λ (o : Output). RunsOn o c.tell.result c.args.running.now c.tell.new.running) (sym c.in-Marked.is)
    (runs_told c.in-Marked.mark c.tell.result c.args.running.now c.tell.new.running c.tell.ensures.why c.tell.ensures.running)

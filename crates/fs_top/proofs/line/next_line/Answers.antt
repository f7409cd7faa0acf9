use Rattle.fs_ahead.specs.Progress.{reads_by}
use Rattle.fs_top.specs.Steps.{last_of}
use Rattle.fs_top.proofs.Scripts.{script_gives}
use Rattle.fs_top.proofs.line.next_line.Goals as goal

pub give-requires-clause-ahead : goal.give-requires-clause-ahead
give-requires-clause-ahead g c = c.in-Ok.ensures.ahead (last_of c.args.engine.now.core.kept.last) c.requires.ready.ahead

pub returns-in-Ok-clause-script : goal.returns-in-Ok-clause-script
returns-in-Ok-clause-script g c =
    let e = c.in-Ok.ensures in
    script_gives c.give.result c.args.engine.now.running (reads_by g.S.Source.left g.S.Source.faults c.args.engine.now.ahead c.args.input.now)
    c.look.new.self c.give.new.ahead (g.S.Source.left c.look.new.input) (g.S.Source.faults c.look.new.input)
    (record { stays = e.stays; keeps = e.comes; faults = e.faults }) c.give.ensures.takes c.give.ensures.passed

use Rattle.std.proofs.Common.{rules}
use Rattle.std.proofs.lemmas.Result.{on_ok_weaker}
use Rattle.fs_core.proofs.MarkingGoing.{end_tells}
use Rattle.fs_core.proofs.machine.Core.note_end.Goals as goal

pub returns-clause-tells : goal.returns-clause-tells
returns-clause-tells c = on_ok_weaker c.put.result (λ is. end_tells c.args.self.now c.put.new.self c.requires.may (search rules)) c.put.ensures.ok

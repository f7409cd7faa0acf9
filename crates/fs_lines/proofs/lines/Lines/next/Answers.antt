use Rattle.fs_lines.proofs.ReadLaws.{told_ahead}
use Rattle.fs_lines.proofs.lines.Lines.next.Goals as goal

pub returns-clause-told : goal.returns-clause-told
returns-clause-told g c = told_ahead _ _ _ _ _ c.answer.ensures.gave.0 c.answer.ensures.gave.1

use Rattle.share_box.proofs.Telling.{ended_keeps}
use Rattle.share_box.proofs.box_link.leave.Goals as goal

pub returns-then-b-clause-keeps : goal.returns-then-b-clause-keeps
returns-then-b-clause-keeps c = ended_keeps c.end.result _ _ c.end.ensures.ok c.end.ensures.untold

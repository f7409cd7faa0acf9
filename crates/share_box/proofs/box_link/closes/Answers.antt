use Rattle.share_box.proofs.Telling.{ended_goes}
use Rattle.share_box.proofs.box_link.closes.Goals as goal

pub returns-clause-keeps : goal.returns-clause-keeps
returns-clause-keeps c = rw c.in_ok-end.ensures.ok (ended_goes _)

use Rattle.share_box.proofs.Telling.{waited_goes, given_goes}
use Rattle.share_box.proofs.box_link.gives.Goals as goal

pub returns-then-is_empty-clause-keeps : goal.returns-then-is_empty-clause-keeps
returns-then-is_empty-clause-keeps c = rw c.in_ok-wait.ensures.ok (waited_goes _)

pub returns-clause-keeps : goal.returns-clause-keeps
returns-clause-keeps c = rw c.in_ok-give.ensures.ok (given_goes _ _)

use Rattle.share_box.proofs.Telling.{accepted_goes, lost_goes}
use Rattle.share_box.proofs.box_link.sends.Goals as goal

pub returns-then-b-clause-keeps : goal.returns-then-b-clause-keeps
returns-then-b-clause-keeps c = rw c.in_ok-accept.ensures.ok (accepted_goes _ _ c.if-b.true)

pub returns-clause-keeps : goal.returns-clause-keeps
returns-clause-keeps c = rw c.in_ok-lose.ensures.ok (lost_goes _ _ c.if-b.false)

use Rattle.share_box.proofs.Telling.{refused_goes, joined_goes, goes_after}
use Rattle.share_box.proofs.box_link.try_join.Goals as goal

pub returns-then-branch-clause-keeps : goal.returns-then-branch-clause-keeps
returns-then-branch-clause-keeps c = rw c.in_ok-refuse.ensures.ok (goes_after _ _ _ c.in_ok-turns_at_connect.ensures.keeps (refused_goes _))

pub returns-clause-keeps : goal.returns-clause-keeps
returns-clause-keeps c = rw c.in_ok-join.ensures.ok (goes_after _ _ _ c.in_ok-turns_at_connect.ensures.keeps (joined_goes _))

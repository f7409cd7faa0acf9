use Rattle.share_box.specs.Calls.{as_link}
use Rattle.share_box.proofs.Connecting.{want_before, joins_after}
use Rattle.share_box.proofs.box_link.connects.Goals as goal

pub returns-in-Ok-clause-goes : goal.returns-in-Ok-clause-goes
returns-in-Ok-clause-goes c = joins_after (as_link c.try_join.result) _ _ _ c.in-Ok.ensures.ok c.try_join.ensures.goes

pub returns-in-Err-clause-goes : goal.returns-in-Err-clause-goes
returns-in-Err-clause-goes c = want_before _ _ c.in-Err.ensures.err

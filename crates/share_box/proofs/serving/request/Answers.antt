use Rattle.share_box.proofs.Steps.{step_keeps}
use Rattle.share_box.proofs.Grants.{reply_grants}
use Rattle.share_box.proofs.serving.request.Goals as goal

pub returns-clause-connected : goal.returns-clause-connected
returns-clause-connected c = step_keeps c.step.result c.args.share.now c.step.new.s _ c.args.r.now c.step.ensures.ok c.step.ensures.err

pub returns-clause-grants : goal.returns-clause-grants
returns-clause-grants c = reply_grants c.step.result c.args.share.now c.step.new.s _ c.args.r.now c.requires c.step.ensures.ok

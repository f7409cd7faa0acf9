use Rattle.share_box.proofs.Proper.{accept_keeps}
use Rattle.share_box.proofs.state.accept.Goals as goal

pub returns-clause-proper : goal.returns-clause-proper
returns-clause-proper c = accept_keeps c.push.result c.args.frame.now c.args.b.now.share.sent c.add_requests.new.sent c.in_ok-add_requests.ensures

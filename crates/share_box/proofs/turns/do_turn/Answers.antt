use Rattle.share_box.proofs.Proper.{serve_keeps, act_keeps}
use Rattle.share_box.proofs.Telling as telling
use Rattle.share_box.proofs.turns.do_turn.Goals as goal

pub returns-in-Serve-clause-proper : goal.returns-in-Serve-clause-proper
returns-in-Serve-clause-proper c = serve_keeps c.serve_number.result c.in-Serve.number c.args.b.now c.serve_number.new.b c.serve_number.ensures.ok

pub returns-in-Act-clause-proper : goal.returns-in-Act-clause-proper
returns-in-Act-clause-proper c = act_keeps c.act.result c.args.b.now.share c.act.new.share c.in-Act.who c.in-Act.r _ c.act.ensures.ok

pub returns-in-Act-clause-keeps : goal.returns-in-Act-clause-keeps
returns-in-Act-clause-keeps c =
    telling.act_keeps c.act.result c.args.b.now c.act.new.share c.act.new.story c.in-Act.who c.in-Act.r (rw c.in-Act.is at c.requires) c.act.ensures.ok c.act.ensures.err

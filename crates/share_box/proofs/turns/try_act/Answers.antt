use Rattle.std.proofs.Common.{sym, ◌∙◌}
use Rattle.share_box.proofs.Telling.{act_keeps}
use Rattle.share_box.proofs.turns.try_act.Goals as goal

pub returns-then-branch-clause-keeps : goal.returns-then-branch-clause-keeps
returns-then-branch-clause-keeps c =
    act_keeps c.act.result c.args.b.now c.act.new.share c.act.new.story c.args.who c.args.r (sym c.in_ok-may_act.ensures ∙ c.if-branch.true) c.act.ensures.ok c.act.ensures.err

use Rattle.std.proofs.Common.{◌∙◌}
use Rattle.share_state.proofs.SentLaws.{found_at}
use Rattle.share_state.proofs.connection.place_of.Goals as goal

pub returns-then-one-mid : goal.returns-then-one-mid
returns-then-one-mid c =
    (c.loop-at-test.true, c.loop-at.invariant ∙ found_at c.args.mid c.args.sent.now c.loop-at.at c.index-sent-at.result c.loop-at-test.true c.index-sent-at.is c.if-one-mid.true)

use Rattle.std.proofs.Common.{rules}
use Rattle.std.proofs.lemmas.List.Edits.{map_over_more}
use Rattle.share_state.specs.Cut.{disconnected}
use Rattle.share_state.proofs.opens.disconnect_in.Goals as goal

pub loop-open-preserved : goal.loop-open-preserved
loop-open-preserved c = rw (c.disconnect_one.ensures, ← c.open-item.is) (map_over_more (disconnected c.args.who) c.args.opens.now c.loop-open.opens c.loop-open.open-index c.open-item.result (search rules) c.loop-open.invariant (search rules))

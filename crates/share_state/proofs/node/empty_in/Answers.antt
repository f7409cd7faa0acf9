use Rattle.std.proofs.Common.{rules}
use Rattle.std.proofs.lemmas.List.Edits.{map_over_more}
use Rattle.share_state.specs.State.{emptied}
use Rattle.share_state.proofs.node.empty_in.Goals as goal

pub loop-node-preserved : goal.loop-node-preserved
loop-node-preserved c = rw (c.empty_one.ensures, ← c.node-item.is) (map_over_more (emptied c.args.number) c.args.nodes.now c.loop-node.nodes c.loop-node.node-index c.node-item.result (search rules) c.loop-node.invariant (search rules))

-- the nodes up to the index are done
use Rattle.std.proofs.Common.{◌≡◌, ◌++◌, map, take, drop}
use Rattle.share_state.specs.State.{emptied}
use Rattle.share_state.proofs.node.empty_in.Given as goal

abbrev pub invariant-loop-node : goal.invariant-loop-node
invariant-loop-node l = l.nodes ≡ map (emptied l.number) (take l.node-index l.fn.nodes) ++ drop l.node-index l.fn.nodes

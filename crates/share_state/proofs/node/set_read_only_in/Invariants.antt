-- the nodes up to the index are done
use Rattle.std.proofs.Common.{◌≡◌, ◌++◌, map, take, drop}
use Rattle.share_state.specs.Marks.{with_read_only}
use Rattle.share_state.proofs.node.set_read_only_in.Given as goal

abbrev pub invariant-loop-node : goal.invariant-loop-node
invariant-loop-node l = l.nodes ≡ map (with_read_only l.number l.on) (take l.node-index l.fn.nodes) ++ drop l.node-index l.fn.nodes

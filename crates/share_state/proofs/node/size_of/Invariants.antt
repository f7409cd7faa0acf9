-- no node up to the index has the number
use Rattle.std.proofs.Common.{◌≡◌, drop}
use Rattle.share_state.specs.State.{size_of}
use Rattle.share_state.proofs.node.size_of.Given as goal

abbrev pub invariant-loop-node : goal.invariant-loop-node
invariant-loop-node l = size_of l.nodes l.number ≡ size_of (drop l.node-index l.nodes) l.number

-- no node up to the index has the number
use Rattle.std.proofs.Common.{◌≡◌, drop}
use Rattle.share_state.specs.Data.{bytes_of}
use Rattle.share_state.proofs.node.bytes_of.Given as goal

abbrev pub invariant-loop-node : goal.invariant-loop-node
invariant-loop-node l = bytes_of l.nodes l.number ≡ bytes_of (drop l.node-index l.nodes) l.number

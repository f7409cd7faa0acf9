-- what is free so far, less what the nodes from the index on have, is free
use Rattle.std.proofs.Common.{◌≡◌, ◌-◌, drop}
use Rattle.share_state.specs.Data.{used}
use Rattle.share_state.proofs.node.free_room.Given as goal

abbrev pub invariant-loop-node : goal.invariant-loop-node
invariant-loop-node l = l.room - used l.nodes ≡ l.free - used (drop l.node-index l.nodes)

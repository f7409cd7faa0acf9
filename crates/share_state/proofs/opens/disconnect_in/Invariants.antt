-- the opens up to the index are done
use Rattle.std.proofs.Common.{◌≡◌, ◌++◌, map, take, drop}
use Rattle.share_state.specs.Cut.{disconnected}
use Rattle.share_state.proofs.opens.disconnect_in.Given as goal

abbrev pub invariant-loop-open : goal.invariant-loop-open
invariant-loop-open l = l.opens ≡ map (disconnected l.who) (take l.open-index l.fn.opens) ++ drop l.open-index l.fn.opens

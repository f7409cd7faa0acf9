-- the messages up to the index are done
use Rattle.std.proofs.Common.{◌≡◌, ◌++◌, map, take, drop}
use Rattle.share_state.specs.Sent.{behind_create}
use Rattle.share_state.proofs.connection.tell_in.Given as goal

abbrev pub invariant-loop-one : goal.invariant-loop-one
invariant-loop-one l = l.sent ≡ map (behind_create l.frame l.last) (take l.one-index l.fn.sent) ++ drop l.one-index l.fn.sent

-- the messages up to the index are done
use Rattle.std.proofs.Common.{◌≡◌, ◌++◌, map, take, drop}
use Rattle.share_state.specs.Sent.{put_off}
use Rattle.share_state.proofs.connection.put_off_in.Given as goal

abbrev pub invariant-loop-one : goal.invariant-loop-one
invariant-loop-one l = l.sent ≡ map (put_off l.mid) (take l.one-index l.fn.sent) ++ drop l.one-index l.fn.sent

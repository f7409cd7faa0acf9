-- no open up to the index is named
use Rattle.std.proofs.Common.{◌≡◌, drop}
use Rattle.share_state.specs.Close.{open_of}
use Rattle.share_state.proofs.opens.open_of.Given as goal

abbrev pub invariant-loop-one : goal.invariant-loop-one
invariant-loop-one l = open_of l.opens l.who l.fid ≡ open_of (drop l.one-index l.opens) l.who l.fid

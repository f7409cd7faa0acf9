-- what was found, with what is to be found from the index on, is all
use Rattle.std.proofs.Common.{◌≡◌, ◌++◌, map, filter, drop}
use Rattle.share_state.specs.Cut.{ends_with}
use Rattle.share_spec.specs.Endings.{ending_of}
use Rattle.share_spec.proofs.lost.endings.Given as goal

abbrev pub invariant-loop-one : goal.invariant-loop-one
invariant-loop-one l = map ending_of (filter (ends_with l.who l.leases) l.opens) ≡ l.list.items ++ map ending_of (filter (ends_with l.who l.leases) (drop l.one-index l.opens))

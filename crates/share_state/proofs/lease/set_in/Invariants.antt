-- the leases up to the index are done
use Rattle.std.proofs.Common.{◌≡◌, ◌++◌, map, take, drop}
use Rattle.share_state.specs.Leases.{set_lease}
use Rattle.share_state.proofs.lease.set_in.Given as goal

abbrev pub invariant-loop-one : goal.invariant-loop-one
invariant-loop-one l = l.leases ≡ map (set_lease l.who l.key l.state) (take l.one-index l.fn.leases) ++ drop l.one-index l.fn.leases

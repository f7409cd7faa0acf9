-- no lease up to the index is the client's under the key
use Rattle.std.proofs.Common.{◌≡◌, drop}
use Rattle.share_state.specs.Leases.{lease_of}
use Rattle.share_state.proofs.lease.lease_of.Given as goal

abbrev pub invariant-loop-lease : goal.invariant-loop-lease
invariant-loop-lease l = lease_of l.leases l.who l.key ≡ lease_of (drop l.lease-index l.leases) l.who l.key

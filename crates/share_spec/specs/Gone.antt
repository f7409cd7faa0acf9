-- What other leases have to lose.
use Rattle.std.specs.Prelude.{ℕ}
use Rattle.share_state.specs.declared.lease.Lease.{Lease}
use Rattle.share_state.specs.declared.share.Share.{Share}
use Rattle.share_state.specs.Breaks.{gone_on, gone_with, gone_with_both}
use Rattle.share_spec.specs.declared.needs.Gone.{Gone}
use Rattle.share_spec.specs.declared.needs.Gone.TheVariants.{Bits, Deleted, Renamed}

-- the bits that a lease has to lose
abbrev pub gone_by : Share → Gone → Lease → ℕ
gone_by s (Bits node bits) = gone_on node bits
gone_by s (Deleted node) = gone_with s node
gone_by s (Renamed node replaced) = gone_with_both s node replaced

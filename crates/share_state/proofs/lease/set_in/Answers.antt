use Rattle.std.proofs.Common.{rules}
use Rattle.std.proofs.lemmas.List.{get_or_default}
use Rattle.std.proofs.lemmas.List.Edits.{map_over_more}
use Rattle.share_state.specs.Leases.{set_lease}
use Rattle.share_state.proofs.lease.set_in.Goals as goal

pub loop-one-preserved : goal.loop-one-preserved
loop-one-preserved c = rw c.set_one.ensures (map_over_more (set_lease c.args.who c.args.key c.args.state) c.args.leases.now c.loop-one.leases c.loop-one.one-index _ (search rules) c.loop-one.invariant (get_or_default c.loop-one.leases c.loop-one.one-index _ _ (search rules)))

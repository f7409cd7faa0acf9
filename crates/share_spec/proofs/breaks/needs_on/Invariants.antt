-- the needs so far, with those of the leases from the index on, are all
use Rattle.std.proofs.Common.{◌≡◌, ◌++◌, drop}
use Rattle.share_state.specs.Breaks.{needs_in, needs_on, is_own, gone_from}
use Rattle.share_spec.proofs.breaks.needs_on.Given as goal

abbrev pub invariant-loop-lease : goal.invariant-loop-lease
invariant-loop-lease l = needs_in (is_own l.who l.w.lease) (gone_from l.s l.w l.node) l.s.leases ≡ l.needs ++ needs_in (is_own l.who l.w.lease) (gone_from l.s l.w l.node) (drop l.lease-index l.s.leases)

-- the needs so far, with those of the leases from the index on, are all
use Rattle.std.proofs.Common.{◌≡◌, ◌++◌, drop}
use Rattle.share_state.specs.Breaks.{needs_in, is_of_open}
use Rattle.share_spec.specs.Gone.{gone_by}
use Rattle.share_spec.proofs.needs.needs_but_own.Given as goal

abbrev pub invariant-loop-lease : goal.invariant-loop-lease
invariant-loop-lease l = needs_in (is_of_open l.one) (gone_by l.s l.gone) l.s.leases ≡ l.needs ++ needs_in (is_of_open l.one) (gone_by l.s l.gone) (drop l.lease-index l.s.leases)

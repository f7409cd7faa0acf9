-- the opens from the index on are still to end
use Rattle.std.proofs.Common.{◌≡◌, drop}
use Rattle.share_spec.specs.Endings.{all_ended}
use Rattle.share_spec.proofs.lost.end_all.Given as goal

abbrev pub invariant-loop-one : goal.invariant-loop-one
invariant-loop-one l = all_ended l.list l.fn.s ≡ all_ended (drop l.one-index l.list) l.s

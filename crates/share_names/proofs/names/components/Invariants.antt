-- the parts so far are in the list
use Rattle.std.proofs.Common.{◌≡◌, map}
use Rattle.share_names.proofs.names.components.Given as goal

abbrev pub invariant-loop-part : goal.invariant-loop-part
invariant-loop-part l = l.list ≡ map (λ part. part.now) l.yielded

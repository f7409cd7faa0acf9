-- the units so far, with those of the rest, are all
use Rattle.std.proofs.Common.{◌≡◌, ◌++◌, length}
use Rattle.fs_plain.specs.Wire.{units_in}
use Rattle.share_box.proofs.requests.units_of.Given as goal

abbrev pub invariant-loop-unit : goal.invariant-loop-unit
invariant-loop-unit l = units_in l.bytes ≡ l.units ++ units_in l.rest

abbrev pub decreases-loop-unit : goal.decreases-loop-unit
decreases-loop-unit l = length l.rest

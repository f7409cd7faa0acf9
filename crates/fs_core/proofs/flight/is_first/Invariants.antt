-- no request up to the index is of the frame
use Rattle.std.proofs.Common.{◌≡◌, drop}
use Rattle.fs_core.specs.Parts.{is_first}
use Rattle.fs_core.proofs.flight.is_first.Given as goal

abbrev pub invariant-loop-other : goal.invariant-loop-other
invariant-loop-other l = is_first l.flights l.flight ≡ is_first (drop l.other-index l.flights) l.flight

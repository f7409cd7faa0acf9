-- no request up to the index is of the call
use Rattle.std.proofs.Common.{◌≡◌, drop}
use Rattle.fs_core.specs.Parts.{is_idle}
use Rattle.fs_core.proofs.flight.is_idle.Given as goal

abbrev pub invariant-loop-flight : goal.invariant-loop-flight
invariant-loop-flight l = is_idle l.number l.flights ≡ is_idle l.number (drop l.flight-index l.flights)

-- no request up to the index has the id
use Rattle.std.proofs.Common.{◌≡◌, drop}
use Rattle.fs_core.specs.Parts.{flight_with}
use Rattle.fs_core.proofs.flight.flight_with.Given as goal

abbrev pub invariant-loop-flight : goal.invariant-loop-flight
invariant-loop-flight l = flight_with l.mid l.flights ≡ flight_with l.mid (drop l.flight-index l.flights)

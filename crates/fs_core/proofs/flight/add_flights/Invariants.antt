-- those that are there are the first of the frame, and the others come under the next id
use Rattle.std.proofs.Common.{◌≡◌, ◌++◌, drop}
use Rattle.fs_core.specs.Steps.{flights_from}
use Rattle.fs_core.specs.Asks.{kinds_of}
use Rattle.fs_core.proofs.flight.add_flights.Given as goal

abbrev pub invariant-loop-request : goal.invariant-loop-request
invariant-loop-request l =
    l.flights.items ++ flights_from l.owner l.first l.id (kinds_of (drop l.request-index l.requests))
    ≡ l.fn.flights.items ++ flights_from l.owner l.first l.first.0 (kinds_of l.requests)

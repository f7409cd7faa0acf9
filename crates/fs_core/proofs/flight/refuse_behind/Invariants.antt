-- those up to the index are done
use Rattle.std.proofs.Common.{◌≡◌, ◌++◌, map, take, drop}
use Rattle.fs_core.specs.Parts.{behind}
use Rattle.fs_core.proofs.flight.refuse_behind.Given as goal

abbrev pub invariant-loop-flight : goal.invariant-loop-flight
invariant-loop-flight l =
    l.flights ≡ map (behind l.frame l.refused) (take l.flight-index l.fn.flights) ++ drop l.flight-index l.fn.flights

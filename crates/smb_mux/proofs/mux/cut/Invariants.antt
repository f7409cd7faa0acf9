-- the first ones stay
use Rattle.std.proofs.Common.{◌≡◌, length, take}
use Rattle.smb_mux.proofs.mux.cut.Given as goal

abbrev pub invariant-loop-flights : goal.invariant-loop-flights
invariant-loop-flights l = take l.many l.flights.entries ≡ take l.many l.fn.flights.entries

abbrev pub decreases-loop-flights : goal.decreases-loop-flights
decreases-loop-flights l = length l.flights.entries

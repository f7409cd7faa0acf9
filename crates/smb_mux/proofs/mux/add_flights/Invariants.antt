-- the requests in flight, with those to come, are all; they have lower ids than those to come, and enough ids are left
use Rattle.std.proofs.Common.{◌≡◌, ◌≤◌, ◌++◌, length, drop}
use Rattle.smb_credit.specs.Window.{usable}
use Rattle.smb_mux.specs.Sending.{costs, ids_after, flights_of}
use Rattle.smb_mux.specs.InFlight.{AreBelow}
use Rattle.smb_mux.proofs.mux.add_flights.Given as goal

abbrev pub invariant-loop-request : goal.invariant-loop-request
invariant-loop-request l = record {
  all : l.flights.entries ++ flights_of l.ids (drop l.request-index l.requests) ≡ l.fn.flights.entries ++ flights_of l.window l.requests;
  ids : ids_after l.ids (drop l.request-index l.requests) ≡ ids_after l.window l.requests;
  enough : costs (drop l.request-index l.requests) ≤ length (usable l.ids);
  below : AreBelow (length l.ids.used) l.flights.entries;
  front : length l.fn.flights.entries ≤ length l.flights.entries;
}

-- what the requests to come cost of the ids that are left, and what becomes of these
use Rattle.std.proofs.Common.{◌≡◌, ◌+◌, length, drop}
use Rattle.smb_credit.specs.Window.{usable}
use Rattle.smb_mux.specs.Sending.{costs, ids_after}
use Rattle.smb_mux.proofs.send.sent.Given as goal

abbrev pub invariant-loop-request : goal.invariant-loop-request
invariant-loop-request l = record {
  left : costs (drop l.request-index l.requests) + length (usable l.window) ≡ costs l.requests + length (usable l.ids);
  ids : ids_after l.ids (drop l.request-index l.requests) ≡ ids_after l.window l.requests;
}

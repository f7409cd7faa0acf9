-- what is written, with the messages to come, is all; they have room, and enough ids are left
use Rattle.std.proofs.Common.{◌≡◌, ◌≤◌, ◌++◌, length, drop}
use Rattle.smb_head.specs.declared.first.TheConstants.{MAX_FRAME}
use Rattle.smb_chain.specs.Chain.{chain}
use Rattle.smb_credit.specs.Window.{usable}
use Rattle.smb_mux.specs.Sending.{costs, placed, room_of}
use Rattle.smb_mux.proofs.send.put_requests.Given as goal

abbrev pub invariant-loop-i : goal.invariant-loop-i
invariant-loop-i l = record {
  written : l.out.items ++ chain (placed l.ids (drop l.i l.requests)) ≡ l.fn.out.items ++ chain (placed l.window l.requests);
  room : room_of (drop l.i l.requests) ≤ MAX_FRAME;
  enough : costs (drop l.i l.requests) ≤ length (usable l.ids);
}

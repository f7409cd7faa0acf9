-- what is counted, with the requests to come, is the whole
use Rattle.std.proofs.Common.{◌≡◌, ◌+◌, ◌≤◌, drop}
use Rattle.smb_head.specs.declared.first.TheConstants.{MAX_FRAME}
use Rattle.smb_mux.specs.Sending.{room_of}
use Rattle.smb_mux.proofs.send.frame_len.Given as goal

abbrev pub invariant-loop-i : goal.invariant-loop-i
invariant-loop-i l = record {
  all : l.len + room_of (drop l.i l.requests) ≡ room_of l.requests;
  within : l.len ≤ MAX_FRAME;
}

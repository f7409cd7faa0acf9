-- what the messages to come grant to the ids so far is what all grant
use Rattle.std.proofs.Common.{◌≡◌}
use Rattle.smb_mux.specs.InFlight.{granted_among, granted_in}
use Rattle.smb_mux.proofs.mux.grant_all.Given as goal

abbrev pub invariant-loop-part : goal.invariant-loop-part
invariant-loop-part l = record {
  all : granted_among l.part-iterator l.window ≡ granted_in l.fn.frame l.fn.window;
  used : l.window.used ≡ l.fn.window.used;
}

-- without the replies to come, those that are left are those that are to be left
use Rattle.std.proofs.Common.{◌≡◌, drop, take}
use Rattle.smb_mux.specs.InFlight.{without}
use Rattle.smb_mux.specs.Answers.{Remain}
use Rattle.smb_mux.proofs.mux.remove_all.Given as goal

abbrev pub invariant-loop-reply : goal.invariant-loop-reply
invariant-loop-reply l = record {
  all : without (drop l.reply-index l.replies) l.flights.entries ≡ without l.replies l.fn.flights.entries;
  remain : Remain (take l.reply-index l.replies) l.fn.flights.entries l.flights.entries;
}

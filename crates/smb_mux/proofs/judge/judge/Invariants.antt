use Rattle.std.proofs.Common.{◌≡◌, length}
use Rattle.smb_mux.specs.Judged.{judged, judged_from}
use Rattle.smb_mux.proofs.judge.judge.Given as goal

-- what the messages from here on add to what came is what the whole frame brings
abbrev pub invariant-loop-now : goal.invariant-loop-now
invariant-loop-now l = judged_from l.flights.entries l.so_far l.left ≡ judged l.fn.flights.entries l.fn.frame

abbrev pub decreases-loop-now : goal.decreases-loop-now
decreases-loop-now l = length l.left

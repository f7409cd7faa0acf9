use Rattle.std.proofs.Common.{◌≡◌}
use Rattle.smb_bench.proofs.requests.exchanged.Given as goal

abbrev pub invariant-loop-i : goal.invariant-loop-i
invariant-loop-i l = l.count ≡ l.i

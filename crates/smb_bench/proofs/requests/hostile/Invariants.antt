use Rattle.std.proofs.Common.{◌≡◌, ◌+◌}
use Rattle.smb_bench.proofs.requests.hostile.Given as goal

abbrev pub invariant-loop-i : goal.invariant-loop-i
invariant-loop-i l = l.answers.taken + (l.answers.malformed + l.answers.strangers) ≡ l.i

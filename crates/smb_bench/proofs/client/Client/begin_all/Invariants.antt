-- the next call may begin
use Rattle.std.proofs.Common.{◌+◌}
use Rattle.smb_bench.specs.Client.{MayBegin}
use Rattle.smb_bench.proofs.client.Client.begin_all.Given as goal

abbrev pub invariant-loop-i : goal.invariant-loop-i
invariant-loop-i l = MayBegin (l.i + 1) l.self.core.kept

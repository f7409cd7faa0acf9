-- what the core keeps is as it was
use Rattle.std.proofs.Common.{◌≡◌, length}
use Rattle.smb_bench.proofs.client.carry_out.Given as goal

abbrev pub invariant-loop-output : goal.invariant-loop-output
invariant-loop-output l = l.core.kept ≡ l.fn.core.kept

abbrev pub decreases-loop-output : goal.decreases-loop-output
decreases-loop-output l = length l.core.outs

use Rattle.std.proofs.Common.{length}
use Rattle.smb_body_b.proofs.Chain.{Walked}
use Rattle.smb_body_b.proofs.contexts.read_contexts.Given as goal

-- the walk has come to the rest
abbrev pub invariant-loop-context : goal.invariant-loop-context
invariant-loop-context l = Walked l.reply l.fn.list l.rest l.so_far

-- and the rest grows shorter
abbrev pub decreases-loop-context : goal.decreases-loop-context
decreases-loop-context l = length l.rest

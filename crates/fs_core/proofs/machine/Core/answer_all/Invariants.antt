-- so far answers were put; each takes a call away
use Rattle.std.proofs.Common.{length}
use Rattle.fs_core.specs.Event.{Puts}
use Rattle.fs_core.proofs.machine.Core.answer_all.Given as goal

abbrev pub invariant-loop-number : goal.invariant-loop-number
invariant-loop-number l = Puts 2 2 l.fn.self l.self

abbrev pub decreases-loop-number : goal.decreases-loop-number
decreases-loop-number l = length l.self.kept.slots

-- the turns alone change, and the first that is possible stays the first
use Rattle.std.proofs.Common.{◌≡◌, length}
use Rattle.share_box.specs.Turns.{from_possible}
use Rattle.share_box.proofs.turns.pass_over.Given as goal

abbrev pub invariant-loop-b : goal.invariant-loop-b
invariant-loop-b l = (l.b ≡ record l.fn.b { turns = l.b.turns }) × (from_possible l.fn.b.share l.b.turns ≡ from_possible l.fn.b.share l.fn.b.turns)

abbrev pub decreases-loop-b : goal.decreases-loop-b
decreases-loop-b l = length l.b.turns

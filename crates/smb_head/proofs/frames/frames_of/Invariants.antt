-- the frames so far and those that come of what is held with the pieces to come are those of all the pieces
use Rattle.std.proofs.Common.{drop}
use Rattle.std.specs.List.{concat}
use Rattle.smb_head.proofs.StreamLaws.{Tells}
use Rattle.smb_head.proofs.frames.frames_of.Given as goal

abbrev pub invariant-loop-piece : goal.invariant-loop-piece
invariant-loop-piece l = Tells l.frames.items l.held (concat (drop l.piece-index l.pieces)) (concat l.pieces)

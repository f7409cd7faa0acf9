-- no request up to the index is of the frame
use Rattle.std.proofs.Common.{◌≡◌, drop}
use Rattle.fs_plain.specs.World.{is_first_of_frame}
use Rattle.share_box.proofs.order.is_first_of_frame.Given as goal

abbrev pub invariant-loop-other : goal.invariant-loop-other
invariant-loop-other l = is_first_of_frame l.sent l.one ≡ is_first_of_frame (drop l.other-index l.sent) l.one

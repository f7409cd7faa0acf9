-- the frames so far and those that are still held are those that were held
use Rattle.std.proofs.Common.{◌≡◌, ◌++◌, length}
use Rattle.smb_head.specs.Stream.{frames_in, rest_in}
use Rattle.smb_head.proofs.frames.take_whole.Given as goal

abbrev pub invariant-loop-frame : goal.invariant-loop-frame
invariant-loop-frame l = record {
  told : l.frames.items ++ frames_in l.held ≡ l.fn.frames.items ++ frames_in l.fn.held;
  left : rest_in l.held ≡ rest_in l.fn.held;
}

abbrev pub decreases-loop-frame : goal.decreases-loop-frame
decreases-loop-frame l = length l.held

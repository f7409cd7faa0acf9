-- the count so far and the frames that are still held are those that were held
use Rattle.std.proofs.Common.{◌≡◌, ◌+◌, ◌-◌, ◌^◌, ◌<◌, min, length}
use Rattle.smb_head.specs.Stream.{frames_in, rest_in}
use Rattle.smb_bench.proofs.frames.take.Given as goal

abbrev pub invariant-loop-frame : goal.invariant-loop-frame
invariant-loop-frame l = record {
  told : min (l.count + length (frames_in l.frames)) (2 ^ 64 - 1) ≡ min (l.fn.before + length (frames_in l.fn.frames)) (2 ^ 64 - 1);
  fits : l.count < 2 ^ 64;
  left : rest_in l.frames ≡ rest_in l.fn.frames;
}

abbrev pub decreases-loop-frame : goal.decreases-loop-frame
decreases-loop-frame l = length l.frames

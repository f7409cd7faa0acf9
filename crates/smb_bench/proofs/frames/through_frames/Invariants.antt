-- the count so far and the frames of what is held with what is still to come are those of the stream
use Rattle.std.proofs.Common.{◌≡◌, ◌+◌, ◌-◌, ◌^◌, ◌<◌, ◌++◌, min, length}
use Rattle.std.specs.Slice.Iter.{chunks_rest}
use Rattle.smb_head.specs.Stream.{frames_in}
use Rattle.smb_head.proofs.StreamLaws.{IsSettled}
use Rattle.smb_bench.proofs.frames.through_frames.Given as goal

abbrev pub invariant-loop-part : goal.invariant-loop-part
invariant-loop-part l = record {
  told : min (l.count + length (frames_in (l.frames ++ chunks_rest l.part-iterator))) (2 ^ 64 - 1) ≡ min (length (frames_in l.stream)) (2 ^ 64 - 1);
  fits : l.count < 2 ^ 64;
  settled : IsSettled l.frames;
}

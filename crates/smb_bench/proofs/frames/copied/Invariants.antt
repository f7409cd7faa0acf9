-- the bytes so far and those to come are those of the stream
use Rattle.std.proofs.Common.{◌≡◌, ◌+◌, ◌-◌, ◌^◌, min, length}
use Rattle.std.specs.Slice.Iter.{chunks_rest}
use Rattle.smb_bench.proofs.frames.copied.Given as goal

abbrev pub invariant-loop-part : goal.invariant-loop-part
invariant-loop-part l = min (l.count + length (chunks_rest l.part-iterator)) (2 ^ 64 - 1) ≡ min (length l.stream) (2 ^ 64 - 1)

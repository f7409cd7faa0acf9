-- so far it is as many frames
use Rattle.std.proofs.Common.{◌≡◌, replicate}
use Rattle.std.specs.List.{flat_map}
use Rattle.smb_head.specs.Stream.{frame}
use Rattle.smb_bench.proofs.frames.stream_of.Given as goal

abbrev pub invariant-loop-i : goal.invariant-loop-i
invariant-loop-i l = l.stream.items ≡ flat_map frame (replicate l.i (replicate l.fn.len 7))

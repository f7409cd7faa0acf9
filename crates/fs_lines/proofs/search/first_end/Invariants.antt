use Rattle.std.proofs.Common.{◌≡◌, take}
use Rattle.fs_lines.specs.Line.{first_line}
use Rattle.fs_lines.proofs.search.first_end.Given as goal

-- no LF so far
abbrev pub invariant-loop-i : goal.invariant-loop-i
invariant-loop-i l = first_line (take l.i l.bytes) ≡ take l.i l.bytes

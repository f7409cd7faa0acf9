use Rattle.std.proofs.Common.{◌≡◌, ◌≤◌, ◌-◌, ◌^◌}
use Rattle.fs_ahead.specs.Script.{lines_to_come}
use Rattle.fs_ahead.proofs.next.next_asked.Given as goal

-- what is to come is the same after lines that ask for nothing
abbrev pub invariant-loop-alloc : goal.invariant-loop-alloc
invariant-loop-alloc g l = record {
  on : l.fn.lines.number ≤ l.lines.number;
  comes : lines_to_come l.fn.lines (g.S.Source.left l.fn.input) ≡ lines_to_come l.lines (g.S.Source.left l.input);
  faults : g.S.Source.faults l.input ≡ g.S.Source.faults l.fn.input;
}

-- the numbers that lines may still have
abbrev pub decreases-loop-alloc : goal.decreases-loop-alloc
decreases-loop-alloc g l = 2 ^ 64 - 1 - l.lines.number

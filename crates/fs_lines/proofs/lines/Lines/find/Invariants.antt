use Rattle.std.proofs.Common.{◌≡◌, ◌-◌, List, ℕ, length}
use Rattle.fs_lines.proofs.ReadLaws.{Searching}
use Rattle.fs_lines.proofs.lines.Lines.find.Given as goal

-- the bytes got so far, and how far they were searched
abbrev pub invariant-loop-found : goal.invariant-loop-found
invariant-loop-found g l = record {
  got : (got : List ℕ) × Searching (g.S.Source.left l.fn.source) (g.S.Source.left l.source) l.fn.self l.self l.seen got;
  faults : g.S.Source.faults l.source ≡ g.S.Source.faults l.fn.source;
}

-- each read brings bytes, until there are more than a line may have
abbrev pub decreases-loop-found : goal.decreases-loop-found
decreases-loop-found g l = 540001 - length l.self.held

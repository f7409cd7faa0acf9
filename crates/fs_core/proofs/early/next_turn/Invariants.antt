-- no reply up to the index has its turn
use Rattle.std.proofs.Common.{◌≡◌, drop}
use Rattle.fs_core.specs.Steps.{next_turn}
use Rattle.fs_core.proofs.early.next_turn.Given as goal

abbrev pub invariant-loop-held : goal.invariant-loop-held
invariant-loop-held l = next_turn l.flights l.early ≡ next_turn l.flights (drop l.held-index l.early)

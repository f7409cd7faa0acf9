-- the entries up to the index are done
use Rattle.std.proofs.Common.{◌≡◌, ◌++◌, map, take, drop}
use Rattle.share_state.specs.State.{marked}
use Rattle.share_state.proofs.entry.mark_in.Given as goal

abbrev pub invariant-loop-entry : goal.invariant-loop-entry
invariant-loop-entry l = l.entries ≡ map (marked l.number) (take l.entry-index l.fn.entries) ++ drop l.entry-index l.fn.entries

-- the entries up to the index are done
use Rattle.std.proofs.Common.{◌≡◌, ◌++◌, map, take, drop}
use Rattle.share_state.specs.Marks.{with_pending}
use Rattle.share_state.proofs.entry.set_pending_in.Given as goal

abbrev pub invariant-loop-entry : goal.invariant-loop-entry
invariant-loop-entry l = l.entries ≡ map (with_pending l.number l.on) (take l.entry-index l.fn.entries) ++ drop l.entry-index l.fn.entries

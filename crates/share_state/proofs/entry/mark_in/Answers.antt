use Rattle.std.proofs.Common.{rules}
use Rattle.std.proofs.lemmas.List.Edits.{map_over_more}
use Rattle.share_state.specs.State.{marked}
use Rattle.share_state.proofs.entry.mark_in.Goals as goal

pub loop-entry-preserved : goal.loop-entry-preserved
loop-entry-preserved c = rw (c.mark_one.ensures, ← c.entry-item.is) (map_over_more (marked c.args.number) c.args.entries.now c.loop-entry.entries c.loop-entry.entry-index c.entry-item.result (search rules) c.loop-entry.invariant (search rules))

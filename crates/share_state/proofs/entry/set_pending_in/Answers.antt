use Rattle.std.proofs.Common.{rules}
use Rattle.std.proofs.lemmas.List.Edits.{map_over_more}
use Rattle.share_state.specs.Marks.{with_pending}
use Rattle.share_state.proofs.entry.set_pending_in.Goals as goal

pub loop-entry-preserved : goal.loop-entry-preserved
loop-entry-preserved c = rw (c.set_pending_one.ensures, ← c.entry-item.is) (map_over_more (with_pending c.args.number c.args.on) c.args.entries.now c.loop-entry.entries c.loop-entry.entry-index c.entry-item.result (search rules) c.loop-entry.invariant (search rules))

use Rattle.std.proofs.Common.{rules}
use Rattle.std.proofs.lemmas.List.Edits.{map_over_more}
use Rattle.share_state.specs.Sent.{behind_create}
use Rattle.share_state.proofs.connection.tell_in.Goals as goal

pub loop-one-preserved : goal.loop-one-preserved
loop-one-preserved c = rw (c.tell_one.ensures, ← c.one-item.is) (map_over_more (behind_create c.args.frame c.args.last) c.args.sent.now c.loop-one.sent c.loop-one.one-index c.one-item.result (search rules) c.loop-one.invariant (search rules))

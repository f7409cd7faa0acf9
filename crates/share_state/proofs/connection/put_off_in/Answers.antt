use Rattle.std.proofs.Common.{rules}
use Rattle.std.proofs.lemmas.List.Edits.{map_over_more}
use Rattle.share_state.specs.Sent.{put_off}
use Rattle.share_state.proofs.connection.put_off_in.Goals as goal

pub loop-one-preserved : goal.loop-one-preserved
loop-one-preserved c = rw (c.put_off_one.ensures, ← c.one-item.is) (map_over_more (put_off c.args.mid) c.args.sent.now c.loop-one.sent c.loop-one.one-index c.one-item.result (search rules) c.loop-one.invariant (search rules))

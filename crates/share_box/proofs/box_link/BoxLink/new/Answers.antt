use Rattle.share_box.proofs.Telling.{fresh_faithful}
use Rattle.share_box.proofs.box_link.BoxLink.new.Goals as goal

pub invariant_of-result : goal.invariant_of-result
invariant_of-result c = rw (c.in_ok-share.ensures, c.new-2.ensures, c.new-3.ensures) (fresh_faithful c.args.room c.args.fold c.args.credits c.of.result)

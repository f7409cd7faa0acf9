use Rattle.share_box.proofs.Telling.{marked_faithful}
use Rattle.share_box.proofs.box_link.BoxLinkLink.mark.Goals as goal

pub invariant_of-self : goal.invariant_of-self
invariant_of-self c = marked_faithful c.self.inside.state _ c.args.mark.now c.in-Ok.ensures.ok c.if-self.false c.self.invariant

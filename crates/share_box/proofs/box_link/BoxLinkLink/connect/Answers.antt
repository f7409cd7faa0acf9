use Rattle.std.proofs.Common.{refl}
use Rattle.share_box.proofs.Going.{goes_same}
use Rattle.share_box.proofs.Connecting.{want_before}
use Rattle.share_box.proofs.box_link.BoxLinkLink.connect.Goals as goal

pub returns-then-self-clause-story : goal.returns-then-self-clause-story
returns-then-self-clause-story c = (want_before c.args.self.now.state c.args.self.now.state (goes_same _ _ refl)).story

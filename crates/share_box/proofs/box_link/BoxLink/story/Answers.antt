use Rattle.std.proofs.Common.{subst}
use Rattle.fs_plain.specs.Honest.{IsHonest}
use Rattle.share_box.specs.Calls.{BoxSeen}
use Rattle.share_box.proofs.Telling.{faithful_honest}
use Rattle.share_box.proofs.box_link.BoxLink.story.Goals as goal

pub returns-clause-honest : goal.returns-clause-honest
returns-clause-honest c = subst (λ (b : BoxSeen). IsHonest b.state.room b.state.fold b.state.story) c.self.view_is (faithful_honest c.self.inside.state c.self.invariant)

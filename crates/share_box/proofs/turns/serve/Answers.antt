use Rattle.std.proofs.Common.{refl, [], ◌∷◌}
use Rattle.smb_link.specs.declared.event.Event.TheVariants as event
use Rattle.share_box.proofs.Going.{goes_told}
use Rattle.share_box.proofs.turns.serve.Goals as goal

pub returns-clause-goes : goal.returns-clause-goes
returns-clause-goes c = rw c.answer.ensures.rest (goes_told _ _ (event.Took c.args.one.now.mid ∷ []) refl c.in_ok-push.ensures.ok c.answer.ensures.connected refl refl refl refl)

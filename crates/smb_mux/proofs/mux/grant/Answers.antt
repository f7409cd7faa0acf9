use Rattle.std.proofs.Common.{◌∙◌, ◌≡◌, ℕ, refl, ap}
use Rattle.smb_credit.specs.Window.{Ids, granted_more}
use Rattle.smb_mux.proofs.mux.grant.Goals as goal

used_stay : (n : ℕ) (ids : Ids) → (granted_more n ids).used ≡ ids.used
unfolding granted_more
used_stay n ids = refl

pub returns-in-Ok-clause-used : goal.returns-in-Ok-clause-used
returns-in-Ok-clause-used c = ap (λ (ids : Ids). ids.used) c.grant.ensures ∙ used_stay c.in-Ok.head.credits c.args.window.now

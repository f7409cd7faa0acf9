use Rattle.std.proofs.Common.{◌∙◌, length, sym, ap}
use Rattle.smb_credit.specs.Window.{Ids, usable}
use Rattle.smb_credit.proofs.WindowLaws.{length-usable}
use Rattle.smb_credit.proofs.window.Window.free.Goals as goal

pub returns : goal.returns
returns c =
    sym (length-usable c.self.inside.next c.self.inside.top c.self.invariant)
    ∙ ap (λ (ids : Ids). length (usable ids)) c.self.view_is

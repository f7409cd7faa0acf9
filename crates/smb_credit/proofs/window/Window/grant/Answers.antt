use Rattle.std.proofs.Common.{◌∙◌, ap, arith}
use Rattle.smb_credit.specs.Window.{granted_more, up_to}
use Rattle.smb_credit.proofs.WindowLaws.{granted_more-up_to}
use Rattle.smb_credit.proofs.window.Window.grant.Goals as goal

pub returns : goal.returns
returns c =
    ap (up_to c.self.inside.next) (omega arith)
    ∙ granted_more-up_to c.args.n c.self.inside.next c.self.inside.top (omega arith)
    ∙ ap (granted_more c.args.n) c.self.view_is

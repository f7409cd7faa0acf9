use Rattle.std.proofs.Common.{refl}
use Rattle.share_box.proofs.Going.{goes_same}
use Rattle.share_box.proofs.Connecting.{want_before}
use Rattle.share_box.proofs.box_link.goes.Goals as goal

pub returns-in-Err-clause-goes : goal.returns-in-Err-clause-goes
returns-in-Err-clause-goes c = want_before c.args.b.now c.args.b.now (goes_same _ _ refl)

use Rattle.std.proofs.Common.{refl}
use Rattle.smb_credit.specs.Window.{up_to, numbers}
use Rattle.smb_credit.proofs.window.Window.new.Goals as goal

pub returns : goal.returns
unfolding up_to numbers
returns c = refl

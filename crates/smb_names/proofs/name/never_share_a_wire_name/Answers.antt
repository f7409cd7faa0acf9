use Rattle.smb_names.proofs.Laws.{never_share}
use Rattle.smb_names.proofs.name.never_share_a_wire_name.Goals as goal

pub returns : goal.returns
returns c = never_share

use Rattle.smb_head.proofs.FrameLaws.{first_of-frame, first_of-begun}
use Rattle.smb_head.proofs.first.frame_start.Goals as goal

pub returns-clause-taken : goal.returns-clause-taken
returns-clause-taken c = λ message rest is. first_of-frame c.args.len message rest c.requires is

pub returns-clause-begun : goal.returns-clause-begun
returns-clause-begun c = λ message k is before. first_of-begun c.args.len message k c.requires is before

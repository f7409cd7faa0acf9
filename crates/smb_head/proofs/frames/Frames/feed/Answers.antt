use Rattle.std.proofs.Common.{◌∙◌, ap}
use Rattle.smb_head.specs.Stream.{first_of}
use Rattle.smb_head.proofs.FrameLaws.{first_of-bad_more}
use Rattle.smb_head.proofs.frames.Frames.feed.Goals as goal

pub returns-clause-for_good : goal.returns-clause-for_good
returns-clause-for_good c = λ fault bad.
    ap first_of c.in_ok-append.ensures.ok ∙ first_of-bad_more c.close_up.new.self c.args.piece.now fault (ap first_of c.close_up.ensures ∙ bad)

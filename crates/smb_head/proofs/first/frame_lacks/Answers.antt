use Rattle.std.proofs.Common.{◌∙◌}
use Rattle.smb_head.proofs.FrameLaws.{first_of-completed, lack-part}
use Rattle.smb_head.proofs.first.frame_lacks.Goals as goal

pub returns-in-Ok-None-clause-completes : goal.returns-in-Ok-None-clause-completes
returns-in-Ok-None-clause-completes c = λ partial four more so_many.
    first_of-completed c.args.bytes.now more partial four (so_many ∙ c.missing.ensures ∙ lack-part c.args.bytes.now four)

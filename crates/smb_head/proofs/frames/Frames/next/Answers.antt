use Rattle.std.proofs.Common.{◌∙◌, ap, sym}
use Rattle.smb_head.specs.Stream.{first_of}
use Rattle.smb_head.proofs.FrameLaws.{bad-memory, IsFault-bad}
use Rattle.smb_head.proofs.frames.Frames.next.Goals as goal

pub returns-in-Err-clause-fault : goal.returns-in-Err-clause-fault
returns-in-Err-clause-fault c =
    IsFault-bad c.in-Err.fault (first_of c.args.self.now) (bad-memory c.args.self.now) (ap first_of (sym c.pending.ensures) ∙ c.in-Err.ensures.bad)

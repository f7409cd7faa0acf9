use Rattle.fs_core.proofs.LandingLoop.{answers_read}
use Rattle.fs_core.proofs.machine.Core.take_replies.Goals as goal

pub returns-in-Ok-clause-read : goal.returns-in-Ok-clause-read
returns-in-Ok-clause-read c = answers_read _ c.in-Ok.taken.replies c.in-Ok.ensures.answers

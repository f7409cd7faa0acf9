use Rattle.std.proofs.Common.{[], arith}
use Rattle.share_box.specs.Bodies.{negotiated}
use Rattle.share_box.proofs.Written.{puts, puts_few, puts_again}
use Rattle.share_box.proofs.bodies.put_negotiated.Goals as goal

pub returns-clause-ok : goal.returns-clause-ok
returns-clause-ok c = puts 65 negotiated [] _ _ _ c.write_negotiate_reply.ensures

pub returns-clause-len : goal.returns-clause-len
returns-clause-len c = puts_few 65 negotiated [] _ _ _ (omega arith) (omega arith) c.write_negotiate_reply.ensures

pub returns-clause-again : goal.returns-clause-again
returns-clause-again c = puts_again 65 negotiated [] _ _ _ c.write_negotiate_reply.ensures

use Rattle.std.proofs.Common.{rules}
use Rattle.share_state.proofs.Edited.{unlocked_at, unlocked_none}
use Rattle.share_state.proofs.lock.LockList.unlock.Goals as goal

pub returns-in-Some : goal.returns-in-Some
returns-in-Some c = rw (c.remove.ensures.items, c.self.view_is) (unlocked_at c.args.holder c.args.offset c.args.length c.args.self.now c.in-Some.place (search rules))

pub returns-in_default : goal.returns-in_default
returns-in_default c = unlocked_none c.args.holder c.args.offset c.args.length c.args.self.now (search rules)

use Rattle.std.proofs.Common.{◌+◌, drop, refl, arith}
use Rattle.smb_link.proofs.Turns.{AllGive-drop, within_start, without_front-next}
use Rattle.smb_link.proofs.list_link.ListLink.pass.Goals as goal

pub invariant_of-self : goal.invariant_of-self
invariant_of-self c =
    (omega arith, within_start (drop (c.self.inside.next + 1) c.self.inside.turns.items) (AllGive-drop (c.self.inside.next + 1) c.self.inside.turns.items c.self.invariant.2), c.self.invariant.2)

pub returns-then-self-len : goal.returns-then-self-len
returns-then-self-len c =
    rw (← c.self.view_is) (rw (without_front-next c.self.inside.at c.self.inside.next c.self.inside.turns.items) refl)

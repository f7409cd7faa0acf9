use Rattle.std.proofs.Common.{subst, sym, arith}
use Rattle.smb_link.proofs.Turns.{AllGive-filter, within_start}
use Rattle.smb_link.specs.Given.{AllGive}
use Rattle.smb_link.proofs.list_link.ListLink.new.Goals as goal

pub invariant_of-result : goal.invariant_of-result
invariant_of-result c =
    let all = subst AllGive (sym c.drop_empty.ensures) (AllGive-filter c.turns.inside.held.items) in
    (omega arith, within_start c.drop_empty.new.turns.items all, all)

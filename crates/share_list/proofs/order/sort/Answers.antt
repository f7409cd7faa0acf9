use Rattle.std.proofs.Common.{rules}
use Rattle.std.proofs.lemmas.Fn.{always_returns_same}
use Rattle.share_list.proofs.Sorted.{before, before_ranks, comes_before-is, in_order-from_sort}
use Rattle.share_list.proofs.order.sort.Goals as goal

pub returns : goal.returns
returns c =
    let answers = always_returns_same _ _ _ (λ a r f k. search (rules, comes_before-is)) in
    in_order-from_sort c.args.names.now.items c.sort_by.new.self.items (c.in_ok-sort_by.ensures.sorted before before_ranks answers) (c.in_ok-sort_by.ensures.stable before before_ranks answers)

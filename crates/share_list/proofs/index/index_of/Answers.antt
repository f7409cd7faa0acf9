use Rattle.std.proofs.Common.{rules, drop, ap, ◌+◌, ◌∙◌}
use Rattle.std.proofs.lemmas.List.{drop_more}
use Rattle.std.specs.BTreeMap as tree
use Rattle.std.specs.Ordering.{nat_cmp}
use Rattle.share_list.proofs.Indexed.{facts_with, facts_with_more}
use Rattle.share_list.proofs.index.index_of.Goals as goal

pub loop-node-preserved : goal.loop-node-preserved
loop-node-preserved c = λ n.
    let rest = drop_more c.args.nodes.now c.loop-node.node-index c.node-item.result (search rules) in
    facts_with_more (tree.get nat_cmp c.loop-node.index) (tree.get nat_cmp c.insert.new.self) c.node-item.result (drop (c.loop-node.node-index + 1) c.args.nodes.now) (search rules) c.in_ok-insert.ensures.updates.2 n
    ∙ ap (λ l. facts_with (tree.get nat_cmp c.loop-node.index n) l n) (search (rules, rest)) ∙ c.loop-node.invariant n

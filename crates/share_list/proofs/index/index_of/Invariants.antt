-- the index of the nodes so far, with those from the index on, says what all nodes say
use Rattle.std.proofs.Common.{◌≡◌, ℕ, drop}
use Rattle.std.specs.BTreeMap as tree
use Rattle.std.specs.Ordering.{nat_cmp}
use Rattle.share_list.specs.Index.{facts_in}
use Rattle.share_list.proofs.Indexed.{facts_with}
use Rattle.share_list.proofs.index.index_of.Given as goal

abbrev pub invariant-loop-node : goal.invariant-loop-node
invariant-loop-node l = (n : ℕ) → facts_with (tree.get nat_cmp l.index n) (drop l.node-index l.nodes) n ≡ facts_in l.nodes n

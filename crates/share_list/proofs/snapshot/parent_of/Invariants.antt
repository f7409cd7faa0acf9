-- no entry up to the index stands for the node
use Rattle.std.proofs.Common.{◌≡◌, drop}
use Rattle.share_state.specs.Listing.{parent_of}
use Rattle.share_list.proofs.snapshot.parent_of.Given as goal

abbrev pub invariant-loop-entry : goal.invariant-loop-entry
invariant-loop-entry l = parent_of l.entries l.node ≡ parent_of (drop l.entry-index l.entries) l.node

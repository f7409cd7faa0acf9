-- each call is for one level less; no entry up to the index leads to the directory
use Rattle.std.proofs.Common.{◌≡◌, ◌==◌, length, drop}
use Rattle.std.specs.Prelude.{◌&&◌, ◌||◌}
use Rattle.std.specs.List.{list_any}
use Rattle.share_state.specs.Tree.{is_beneath}
use Rattle.share_names.proofs.tree.+is_beneath.Given as goal

abbrev pub decreases-is_beneath : goal.decreases-is_beneath
decreases-is_beneath l = length l.levels.now

abbrev pub invariant-loop-entry : goal.invariant-loop-entry
invariant-loop-entry l = is_beneath l.levels l.entries l.directory l.node ≡ list_any (λ e. e.node == l.node && (e.directory == l.directory || is_beneath l.fewer l.entries l.directory e.directory)) (drop l.entry-index l.entries)

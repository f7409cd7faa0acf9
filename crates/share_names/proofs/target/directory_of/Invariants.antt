-- no entry up to the index has the number
use Rattle.std.proofs.Common.{◌≡◌, drop}
use Rattle.share_state.specs.NewNames.{directory_of}
use Rattle.share_names.proofs.target.directory_of.Given as goal

abbrev pub invariant-loop-entry : goal.invariant-loop-entry
invariant-loop-entry l = directory_of l.entries l.number ≡ directory_of (drop l.entry-index l.entries) l.number

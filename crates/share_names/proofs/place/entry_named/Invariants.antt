-- no entry up to the index has the name
use Rattle.std.proofs.Common.{◌≡◌, drop}
use Rattle.share_state.specs.Place.{entry_named}
use Rattle.share_names.proofs.place.entry_named.Given as goal

abbrev pub invariant-loop-entry : goal.invariant-loop-entry
invariant-loop-entry l = entry_named l.fold l.entries l.directory l.name ≡ entry_named l.fold (drop l.entry-index l.entries) l.directory l.name

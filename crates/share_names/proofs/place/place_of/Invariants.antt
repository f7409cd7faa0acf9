-- the place is where the names up to the index lead
use Rattle.std.proofs.Common.{◌≡◌, take}
use Rattle.std.specs.List.{fold}
use Rattle.share_state.specs.Place.{below, root}
use Rattle.share_names.proofs.place.place_of.Given as goal

abbrev pub invariant-loop-name : goal.invariant-loop-name
invariant-loop-name l = l.place ≡ fold (below l.s) root (take l.name-index l.names)

-- the names of the entries up to the index, with those from the index on, are all
use Rattle.std.proofs.Common.{◌≡◌, ◌==◌, ◌++◌, drop, map, filter}
use Rattle.share_state.specs.Listing.{name_of, names_in}
use Rattle.share_list.proofs.snapshot.names_in.Given as goal

abbrev pub invariant-loop-entry : goal.invariant-loop-entry
invariant-loop-entry l = names_in l.s l.directory ≡ l.names.items ++ map (λ e. name_of l.s.nodes e.name e.node) (filter (λ e. e.directory == l.directory) (drop l.entry-index l.s.entries))

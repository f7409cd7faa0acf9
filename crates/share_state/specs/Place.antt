-- Where a path leads (MS-FSA 2.1.5.1, the phase that looks up the parent directory and the name).
use Rattle.std.specs.Prelude.{ℕ, Bool, ◌==◌, ◌&&◌, if◌then◌else◌, List, [], ◌∷◌, Option, Some, None}
use Rattle.std.specs.List.{fold}
use Rattle.share_state.specs.declared.entry.Entry.{Entry}
use Rattle.share_state.specs.declared.share.Share.{Share}
use Rattle.share_state.specs.declared.place.Found.{Found}
use Rattle.share_state.specs.declared.place.Place.{Place}
use Rattle.share_state.specs.declared.place.Place.TheVariants.{NoPath, Missing, There}
use Rattle.share_state.specs.Names.{same_name}
use Rattle.share_state.specs.State.{is_directory}

-- the entry of this name in a directory, with its node
abbrev pub entry_named : Bool → List Entry → ℕ → List ℕ → Option Found
entry_named folds [] d name = None
entry_named folds (e ∷ es) d name =
    if e.directory == d && same_name folds e.name name then Some (record { node = e.node; entry = e.number })
    else entry_named folds es d name

-- the root, which has no entry
abbrev pub root : Place
root = There (record { node = 1; entry = 0 })

-- what a name is in a directory
abbrev pub in_directory : Option Found → ℕ → List ℕ → Place
in_directory None d name = Missing d name
in_directory (Some found) d name = There found

-- one component further: only in a directory that is there
abbrev pub below : Share → Place → List ℕ → Place
below s NoPath name = NoPath
below s (Missing d before) name = NoPath
below s (There at) name =
    if is_directory s.nodes at.node then in_directory (entry_named s.fold s.entries at.node name) at.node name else NoPath

-- where these components lead from the root
abbrev pub place_of : Share → List (List ℕ) → Place
place_of s names = fold (below s) root names

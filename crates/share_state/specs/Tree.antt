-- What lies beneath a directory.
use Rattle.std.specs.Prelude.{ℕ, ◌==◌, Bool, false, ◌&&◌, ◌||◌, List, [], ◌∷◌}
use Rattle.std.specs.List.{list_any}
use Rattle.share_state.specs.declared.entry.Entry.{Entry}

-- a node lies beneath a directory: one of its entries is in it, or in a directory beneath it; at most as many levels down as the
-- first list is long, which is asked with all entries
abbrev pub is_beneath : List Entry → List Entry → ℕ → ℕ → Bool
is_beneath [] entries directory node = false
is_beneath (level ∷ levels) entries directory node =
    list_any (λ e. e.node == node && (e.directory == directory || is_beneath levels entries directory e.directory)) entries

-- an entry lies beneath a directory: it is in it, or in a directory beneath it
abbrev pub is_entry_beneath : List Entry → ℕ → ℕ → Bool
is_entry_beneath entries directory n =
    list_any (λ e. e.number == n && (e.directory == directory || is_beneath entries entries directory e.directory)) entries

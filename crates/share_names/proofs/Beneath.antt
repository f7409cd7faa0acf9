-- Nothing lies beneath what has no entries.
use Rattle.std.proofs.Common.{◌≡◌, ℕ, ◌==◌, Bool, false, List, [], ◌∷◌, refl, arith}
use Rattle.std.specs.Prelude.{◌&&◌, ◌||◌}
use Rattle.std.specs.List.{list_any}
use Rattle.share_state.specs.declared.entry.Entry.{Entry}
use Rattle.share_state.specs.declared.opens.Open.{Open}
use Rattle.share_state.specs.declared.share.Share.{Share}
use Rattle.share_state.specs.State.{has_entries}
use Rattle.share_state.specs.Tree.{is_beneath, is_entry_beneath}
use Rattle.share_state.specs.NewNames.{has_open_beneath}

-- no entry of these is in a directory that has none, nor in one beneath it
none_within : (p : Entry → Bool) (directory : ℕ) (beneath : ℕ → Bool) → ((n : ℕ) → beneath n ≡ false) → (es : List Entry) → has_entries es directory ≡ false
    → list_any (λ e. p e && (e.directory == directory || beneath e.directory)) es ≡ false
none_within p directory beneath none [] h = refl
none_within p directory beneath none (e ∷ es) h = grind (arith, none_within p directory beneath none es, none e.directory)

-- no node lies beneath it
no_node_beneath : (levels entries : List Entry) (directory node : ℕ) → has_entries entries directory ≡ false → is_beneath levels entries directory node ≡ false
no_node_beneath [] entries directory node h = refl
no_node_beneath (level ∷ levels) entries directory node h =
    none_within (λ e. e.node == node) directory (is_beneath levels entries directory) (λ n. no_node_beneath levels entries directory n h) entries h

-- no entry lies beneath it
no_entry_beneath : (entries : List Entry) (directory n : ℕ) → has_entries entries directory ≡ false → is_entry_beneath entries directory n ≡ false
no_entry_beneath entries directory n h =
    none_within (λ e. e.number == n) directory (is_beneath entries entries directory) (λ m. no_node_beneath entries entries directory m h) entries h

-- none of these opens was made by an entry beneath it
no_open_of : (entries : List Entry) (node : ℕ) → has_entries entries node ≡ false → (opens : List Open) → list_any (λ o. is_entry_beneath entries node o.entry) opens ≡ false
no_open_of entries node h [] = refl
no_open_of entries node h (o ∷ os) = rw (no_entry_beneath entries node o.entry h) (no_open_of entries node h os)

-- no open of the share was
pub no_open_beneath : (s : Share) (node : ℕ) → has_entries s.entries node ≡ false → has_open_beneath s node ≡ false
no_open_beneath s node h = no_open_of s.entries node h s.opens

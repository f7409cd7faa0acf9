-- What the share holds, and what is asked of its lists.
use Rattle.std.specs.Prelude.{ℕ, ◌==◌, Bool, true, false, not, ◌&&◌, if◌then◌else◌, List, [], ◌∷◌, length, bit_and}
use Rattle.std.specs.List.{list_any}
use Rattle.share_state.specs.declared.node.Node.{Node}
use Rattle.share_state.specs.declared.entry.Entry.{Entry}
use Rattle.share_state.specs.declared.opens.Open.{Open}
use Rattle.share_state.specs.declared.share.Share.{Share}

-- what a share is made with: how many bytes all files may have together, and whether `a` to `z` in names are as `A` to `Z`
pub record Making : Type 0 where
  pub room : ℕ
  pub fold : Bool

-- a share that has the root alone, node 1
abbrev pub fresh_share : ℕ → Bool → Share
fresh_share room fold = record {
  nodes = record { number = 1; dir = true; bytes = []; read_only = false } ∷ [];
  entries = [];
  opens = [];
  locks = [];
  leases = [];
  room = room;
  fold = fold;
  nodes_made = 1;
  entries_made = 0;
  opens_made = 0;
  connected = false;
  sent = [];
  owed = [];
  held = [];
  grants = [];
}

-- a list with its first item of this kind changed so
abbrev pub edited : {X : Type 0} → (X → Bool) → (X → X) → List X → List X
edited is change [] = []
edited is change (x ∷ xs) = if is x then change x ∷ xs else x ∷ edited is change xs

-- a number has one of these bits
abbrev pub has : ℕ → ℕ → Bool
has number bits = not (bit_and number bits == 0)

-- this node is a directory
abbrev pub is_directory : List Node → ℕ → Bool
is_directory nodes n = list_any (λ x. x.number == n && x.dir) nodes

-- this node is read-only
abbrev pub is_read_only : List Node → ℕ → Bool
is_read_only nodes n = list_any (λ x. x.number == n && x.read_only) nodes

-- the size of this node: how many bytes it has
abbrev pub size_of : List Node → ℕ → ℕ
size_of [] n = 0
size_of (x ∷ xs) n = if x.number == n then length x.bytes else size_of xs n

-- a node, empty where it has this number
abbrev pub emptied : ℕ → Node → Node
emptied n x = if x.number == n then record x { bytes = [] } else x

-- the directory has entries
abbrev pub has_entries : List Entry → ℕ → Bool
has_entries entries d = list_any (λ e. e.directory == d) entries

-- this entry goes once no open has it any more
abbrev pub is_pending : List Entry → ℕ → Bool
is_pending entries n = list_any (λ e. e.number == n && e.pending) entries

-- an entry of this node goes so; a directory has one entry at most
abbrev pub is_going : List Entry → ℕ → Bool
is_going entries node = list_any (λ e. e.node == node && e.pending) entries

-- some entry stands for this node
abbrev pub is_named : List Entry → ℕ → Bool
is_named entries node = list_any (λ e. e.node == node) entries

-- an entry, on its way to go where it has this number
abbrev pub marked : ℕ → Entry → Entry
marked n e = if e.number == n then record e { pending = true } else e

-- some open has this entry
abbrev pub has_open_of_entry : List Open → ℕ → Bool
has_open_of_entry opens n = list_any (λ o. o.entry == n) opens

-- some open is of this node
abbrev pub has_open_of_node : List Open → ℕ → Bool
has_open_of_node opens n = list_any (λ o. o.node == n) opens

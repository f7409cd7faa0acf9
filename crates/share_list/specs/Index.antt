-- An index of nodes: what a listing shows of the node with a number.
use Rattle.std.specs.Prelude.{◌≡◌, ℕ, false, ◌||◌, List, length, Option, Some, None}
use Rattle.std.specs.BTreeMap as tree
use Rattle.std.specs.BTreeMap.{BTreeMap}
use Rattle.std.specs.Ordering.{nat_cmp}
use Rattle.share_state.specs.declared.node.Node.{Node}
use Rattle.share_state.specs.State.{is_directory, is_read_only, size_of}
use Rattle.share_list.specs.declared.index.Facts.{Facts}

-- what the nodes say of a number
abbrev pub facts_in : List Node → ℕ → Facts
facts_in nodes n = record { dir = is_directory nodes n; size = size_of nodes n; read_only = is_read_only nodes n }

-- what was found of a number; of one that no node has, that it is an empty file
abbrev pub facts_of : Option Facts → Facts
facts_of None = record { dir = false; size = 0; read_only = false }
facts_of (Some facts) = facts

-- what is known of a number once one more node has it
abbrev pub with_node : Option Facts → Node → Facts
with_node None x = record { dir = x.dir; size = length x.bytes; read_only = x.read_only }
with_node (Some facts) x = record { dir = facts.dir || x.dir; size = facts.size; read_only = facts.read_only || x.read_only }

-- an index says of each number what the nodes say
abbrev pub IsIndexOf : List Node → BTreeMap ℕ Facts → Type 0
IsIndexOf nodes index = (n : ℕ) → facts_of (tree.get nat_cmp index n) ≡ facts_in nodes n

-- Compounded messages in one frame (MS-SMB2 3.2.4.1.4 and 3.3.5.2.7).
use Rattle.std.specs.Prelude.{◌+◌, ◌-◌, ◌*◌, ◌/◌, ℕ, Bool, true, false, List, [], ◌∷◌, ◌++◌, length, replicate}
use Rattle.std.specs.List.{concat}
use Rattle.smb_head.specs.declared.head.Head.{Head}
use Rattle.smb_head.specs.Header.{header}
use Rattle.smb_chain.specs.declared.builder.Message.{Message}

-- the least multiple of 8 that is not below n
abbrev pub padded : ℕ → ℕ
padded n = (n + 7) / 8 * 8

-- a head with this NextCommand
abbrev pub linked : Head → ℕ → Head
linked head n = record head { next = n }

-- a header's fields and a body as a message
abbrev pub message : Head → List ℕ → Message
message head body = record { head = head; body = body }

-- how long a message is: a header and its body
abbrev pub size_of : Message → ℕ
size_of m = 64 + length m.body

-- the last message: NextCommand is 0, and nothing follows the body
abbrev pub last_part : Message → List ℕ
last_part m = header (linked m.head 0) ++ m.body

-- a message before another: NextCommand is its length with the zero bytes that make it a multiple of 8
abbrev pub linked_part : Message → List ℕ
linked_part m = header (linked m.head (padded (size_of m))) ++ (m.body ++ replicate (padded (size_of m) - size_of m) 0)

-- the messages as they stand in a chain
abbrev pub parts_for : List Message → List (List ℕ)
parts_for [] = []
parts_for (m ∷ []) = last_part m ∷ []
parts_for (m ∷ next ∷ others) = linked_part m ∷ parts_for (next ∷ others)

-- the bytes of a chain: its parts, one after the other
unfoldable pub chain : List Message → List ℕ
chain messages = concat (parts_for messages)

-- a message as it stands in a chain, as the last one or before another
abbrev pub part_for : Message → Bool → List ℕ
part_for m true = last_part m
part_for m false = linked_part m

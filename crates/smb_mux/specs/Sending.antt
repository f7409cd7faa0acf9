-- Requests as one frame (MS-SMB2 3.2.4.1): each under the least id that may be used, with as many ids as it costs.
use Rattle.std.specs.Prelude.{ℕ, ◌+◌, Bool, true, false, if◌then◌else◌, List, [], ◌∷◌, length}
use Rattle.smb_head.specs.declared.head.Head.{Head}
use Rattle.smb_head.specs.declared.head.Route.TheVariants.{Sync}
use Rattle.smb_head.specs.declared.request.Request.{Request}
use Rattle.smb_chain.specs.declared.builder.Message.{Message}
use Rattle.smb_chain.specs.Chain.{padded, message}
use Rattle.smb_credit.specs.Window.{Ids, least, cost, after_use}

-- how many ids requests cost
abbrev pub costs : List Request → ℕ
costs [] = 0
costs (r ∷ rs) = cost r.charge + costs rs

-- the ids once they are sent
abbrev pub ids_after : Ids → List Request → Ids
ids_after ids [] = ids
ids_after ids (r ∷ rs) = ids_after (after_use (cost r.charge) ids) rs

-- the header of a request (MS-SMB2 2.2.1.2): it asks for 32 credits, and has the flag RELATED (4) where it belongs to the one before it
abbrev pub head_for : ℕ → Request → Head
head_for mid r = record {
  charge = r.charge;
  status = record { 0 = 0 };
  command = r.command;
  credits = 32;
  flags = record { 0 = if r.related then 4 else 0 };
  next = 0;
  mid = record { 0 = mid };
  route = Sync r.tree;
  session = r.session;
}

abbrev pub message_for : ℕ → Request → Message
message_for mid r = message (head_for mid r) r.body

-- the messages of a frame of requests, in order
abbrev pub placed : Ids → List Request → List Message
placed ids [] = []
placed ids (r ∷ rs) = message_for (least ids) r ∷ placed (after_use (cost r.charge) ids) rs

-- the requests that are in flight then, each by its id and its command
abbrev pub flights_of : Ids → List Request → List (ℕ × ℕ)
flights_of ids [] = []
flights_of ids (r ∷ rs) = (least ids, r.command) ∷ flights_of (after_use (cost r.charge) ids) rs

-- how many bytes the frame has behind its first four: all messages but the last are padded
abbrev pub room_of : List Request → ℕ
room_of [] = 0
room_of (r ∷ []) = 64 + length r.body
room_of (r ∷ next ∷ rs) = padded (64 + length r.body) + room_of (next ∷ rs)

-- a message with a body of so many bytes, as the last one or before another
abbrev pub part_room : ℕ → Bool → ℕ
part_room body true = 64 + body
part_room body false = padded (64 + body)

-- The frames that the client sends, byte by byte: each request is the one spelling of what it asks, under the next ids, in the mount's
-- session and tree, with the charge of its payload.
use Rattle.std.specs.Prelude.{◌≡◌, ℕ, ◌+◌, ◌-◌, ◌^◌, ◌<◌, ◌≤◌, Bool, true, false, if◌then◌else◌, List, [], ◌∷◌, length, is_none, Result, Ok, Err}
use Rattle.smb_base.specs.declared.names.Fid.{Fid}
use Rattle.smb_base.specs.declared.names.Mid.{Mid}
use Rattle.smb_head.specs.declared.command.TheConstants.{CREATE, CLOSE, ECHO, QUERY_INFO}
use Rattle.smb_head.specs.declared.request.Request.{Request}
use Rattle.smb_head.specs.declared.first.TheConstants.{MAX_FRAME}
use Rattle.smb_head.specs.Stream as stream
use Rattle.smb_chain.specs.declared.parts.BadNext.{BadNext}
use Rattle.smb_chain.specs.Chain.{chain}
use Rattle.smb_credit.specs.Window.{Ids, cost, up_to}
use Rattle.smb_field.specs.declared.field.Field.{Field}
use Rattle.smb_field.specs.declared.field.Field.TheVariants.{U8, U16, U32, U64, Any8, Any16, Any32, Any64, Offset16, Second32}
use Rattle.smb_field.specs.Body.{spelling}
use Rattle.smb_field.specs.TwoParts.{spelling_of_two}
use Rattle.smb_mount.specs.declared.facts.Facts.{Facts}
use Rattle.smb_mount.specs.Requests.{charge_of, unit_bytes, empty_body}
use Rattle.smb_mux.specs.Sending.{costs, placed, room_of}
use Rattle.smb_link.specs.Program.{File, Wish, Open as Opening, Query, Close}
use Rattle.fs_plain.specs.Requests.{wire_request}
use Rattle.fs_plain.specs.World.{mid_of}
use Rattle.fs_plain.specs.Wishes.{wished_attributes}
use Rattle.fs_client.specs.View.{Client}
use Rattle.fs_client.specs.After.{parts_sent, cost_of}

-- the fields of a CREATE (MS-SMB2 2.2.13): no oplock, impersonation, access, attributes, everything shared, disposition, options, where
-- the name stands and its length, and no contexts
abbrev pub create_fields : ℕ → ℕ → ℕ → List ℕ → List Field
create_fields access disposition options name =
    Any8 0 ∷ U8 0 ∷ Any32 2 ∷ Any64 0 ∷ Any64 0 ∷ U32 access ∷ U32 (wished_attributes options) ∷ U32 7 ∷ U32 disposition
    ∷ U32 options ∷ Offset16 ∷ U16 (length name) ∷ Second32 ∷ U32 0 ∷ []

-- the fields of a CLOSE (2.2.15): no flag, and the file id
abbrev pub close_fields : Fid → List Field
close_fields fid = Any16 0 ∷ Any32 0 ∷ U64 fid.persistent ∷ U64 fid.volatile ∷ []

-- the fields of a QUERY_INFO (2.2.37): all that is known of a file, in 1024 bytes, no input, and the file id
abbrev pub query_fields : Fid → List Field
query_fields fid =
    U8 1 ∷ U8 18 ∷ U32 1024 ∷ Any16 0 ∷ Any16 0 ∷ Any32 0 ∷ Any32 0 ∷ Any32 0 ∷ U64 fid.persistent ∷ U64 fid.volatile ∷ []

-- what a wish of a call is as a command, and its body
abbrev pub command_for : Wish → ℕ
command_for (Opening path access disposition options) = CREATE
command_for (Query file) = QUERY_INFO
command_for (Close file) = CLOSE

abbrev pub body_for : (File → Fid) → Wish → List ℕ
body_for fid (Opening path access disposition options) =
    spelling_of_two 57 (create_fields access disposition options (unit_bytes path)) (unit_bytes path) []
body_for fid (Query file) = spelling 41 (query_fields (fid file)) []
body_for fid (Close file) = spelling 24 (close_fields (fid file)) []

-- the file id of a request that is related to the CREATE before it: all bits (3.2.4.1.4)
abbrev pub every_bit : Fid
every_bit = record { persistent = 2 ^ 64 - 1; volatile = 2 ^ 64 - 1 }

abbrev pub fid_sent : Bool → (File → Fid) → File → Fid
fid_sent related fid file = if related then every_bit else fid file

-- the request of a wish, related or not
abbrev pub request_for : Facts → (File → Fid) → Bool × Wish → Request
request_for facts fid wish = record {
  command = command_for wish.1;
  charge = charge_of facts.caps;
  related = wish.0;
  tree = facts.tree;
  session = facts.session;
  body = body_for (fid_sent wish.0 fid) wish.1;
}

-- how many ids it costs
abbrev pub ids_for : Facts → Wish → ℕ
ids_for facts wish = cost (charge_of facts.caps)

-- an ECHO (2.2.28)
abbrev pub echo : Facts → Request
echo facts = record {
  command = ECHO;
  charge = charge_of facts.caps;
  related = false;
  tree = 0;
  session = facts.session;
  body = empty_body;
}

-- the ids of the connection: all below the next one are used, and so many were granted
abbrev pub ids_of : Client → Ids
ids_of c = up_to c.view.next c.tally.granted

-- the id of the next request
abbrev pub next_mid : Client → Mid
next_mid c = record { 0 = c.view.next }

-- how many ids may be used
abbrev pub free_ids : Client → ℕ
free_ids c = c.tally.granted - c.view.next

-- the messages of a frame each ask for something, under the next ids, as many each as it costs
abbrev pub AreNext : ℕ → List (Result (List ℕ) BadNext) → Type 0
AreNext next [] = Unit {0}
AreNext next (Err bad ∷ parts) = ⊥
AreNext next (Ok message ∷ parts) =
    ((mid_of message).0 ≡ next) × (is_none (wire_request message) ≡ false) × AreNext (next + cost_of message) parts

-- a frame is these requests, on a connection that stands, within the ids that were granted, and no longer than a frame may be
pub record IsFrameOf (requests : List Request) (c : Client) (frame : List ℕ) : Type 0 where
  pub connected : c.view.connected ≡ true
  pub spelled : frame ≡ stream.frame (chain (placed (ids_of c) requests))
  pub granted : c.view.next + costs requests ≤ c.tally.granted
  pub room : room_of requests ≤ MAX_FRAME
  pub some : 0 < length (parts_sent frame)
  pub next : AreNext c.view.next (parts_sent frame)

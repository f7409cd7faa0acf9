-- The requests of a mount and of its end. Each body is the one spelling of its table.
use Rattle.std.specs.Prelude.{◌≡◌, ◌≤◌, ℕ, ◌==◌, if◌then◌else◌, false, bit_and, List, [], ◌∷◌, length}
use Rattle.std.specs.List.{flat_map}
use Rattle.smb_le.specs.declared.flags.ServerCaps.{ServerCaps}
use Rattle.smb_le.specs.Numbers.{bytes_of}
use Rattle.smb_head.specs.declared.command.TheConstants.{NEGOTIATE, SESSION_SETUP, LOGOFF, TREE_CONNECT, TREE_DISCONNECT}
use Rattle.smb_head.specs.declared.request.Request.{Request}
use Rattle.smb_field.specs.declared.field.Field.{Field}
use Rattle.smb_field.specs.declared.field.Field.TheVariants.{U16, U64, Block, Any8, Any16, Any32, Any64, Offset16, Follows}
use Rattle.smb_field.specs.Body.{spelling, IsReadAgain}
use Rattle.smb_mount.specs.declared.facts.Facts.{Facts}

-- what a request costs whose payload is below 65,536 bytes: 1 where the server has LARGE_MTU (MS-SMB2 2.2.4 and 3.2.4.1.5), else 0
abbrev pub charge_of : ServerCaps → ℕ
charge_of caps = if bit_and caps.0 4 == 4 then 1 else 0

-- a request's body is this spelling, which is read again, and it is short
pub record IsWritten (size : ℕ) (fields : List Field) (part : List ℕ) (request : Request) : Type 0 where
  pub spelled : request.body ≡ spelling size fields part
  pub again : IsReadAgain size fields part
  pub short : length request.body ≤ 100000

-- the fields of NEGOTIATE (MS-SMB2 2.2.3): how many dialects, security mode with signing enabled, reserved, capabilities, the client's
-- id, start time; behind them the dialect 0x0210
abbrev pub negotiate_fields : List ℕ → List Field
negotiate_fields guid = U16 1 ∷ Any16 1 ∷ Any16 0 ∷ Any32 0 ∷ Block guid ∷ Any64 0 ∷ Follows ∷ []

abbrev pub dialects : List ℕ
dialects = 0x10 ∷ 0x02 ∷ []

abbrev pub negotiate : List ℕ → Request
negotiate guid = record {
  command = NEGOTIATE;
  charge = 0;
  related = false;
  tree = 0;
  session = 0;
  body = spelling 36 (negotiate_fields guid) dialects;
}

-- the fields of SESSION_SETUP (MS-SMB2 2.2.5): flags, security mode with signing enabled, capabilities, channel, the token's offset and
-- length, the session before this one
abbrev pub session_fields : ℕ → List ℕ → List Field
session_fields previous token = Any8 0 ∷ Any8 1 ∷ Any32 0 ∷ Any32 0 ∷ Offset16 ∷ U16 (length token) ∷ U64 previous ∷ []

abbrev pub session_setup : ServerCaps → ℕ → ℕ → List ℕ → Request
session_setup caps session previous token = record {
  command = SESSION_SETUP;
  charge = charge_of caps;
  related = false;
  tree = 0;
  session = session;
  body = spelling 25 (session_fields previous token) token;
}

-- units of UTF-16 as bytes, the low byte of each first
unfoldable pub unit_bytes : List ℕ → List ℕ
unit_bytes units = flat_map (bytes_of 2) units

-- the fields of TREE_CONNECT (MS-SMB2 2.2.9) with this path: reserved, the path's offset and length
abbrev pub tree_fields : List ℕ → List Field
tree_fields path = Any16 0 ∷ Offset16 ∷ U16 (length path) ∷ []

abbrev pub tree_connect_body : List ℕ → List ℕ
tree_connect_body path = spelling 9 (tree_fields path) path

-- TREE_CONNECT
abbrev pub tree_connect : ServerCaps → ℕ → List ℕ → Request
tree_connect caps session path = record {
  command = TREE_CONNECT;
  charge = charge_of caps;
  related = false;
  tree = 0;
  session = session;
  body = tree_connect_body (unit_bytes path);
}

-- the body without a field (MS-SMB2 2.2.7 and 2.2.11)
abbrev pub no_fields : List Field
no_fields = Any16 0 ∷ []

abbrev pub empty_body : List ℕ
empty_body = spelling 4 no_fields []

-- TREE_DISCONNECT
abbrev pub tree_disconnect : Facts → Request
tree_disconnect facts = record {
  command = TREE_DISCONNECT;
  charge = charge_of facts.caps;
  related = false;
  tree = facts.tree;
  session = facts.session;
  body = empty_body;
}

-- LOGOFF
abbrev pub logoff : Facts → Request
logoff facts = record {
  command = LOGOFF;
  charge = charge_of facts.caps;
  related = false;
  tree = 0;
  session = facts.session;
  body = empty_body;
}

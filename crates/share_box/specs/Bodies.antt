-- The bodies of replies, field by field as the tables of MS-SMB2 2.2 and MS-FSCC 2.4 list them.
use Rattle.std.specs.Prelude.{ℕ, ◌==◌, Bool, true, false, if◌then◌else◌, List, [], ◌∷◌, replicate}
use Rattle.smb_base.specs.declared.names.Fid.{Fid}
use Rattle.smb_base.specs.declared.names.Status.{Status}
use Rattle.smb_field.specs.declared.field.Field.{Field}
use Rattle.smb_field.specs.declared.field.Field.TheVariants.{U8, U16, U32, U64, Block, Any8, Any16, Any32, Offset16, Offset32, Follows}
use Rattle.smb_field.specs.Body.{spelling}
use Rattle.smb_field.specs.Structure.{spelling_in}
use Rattle.share_state.specs.declared.request.Rep.{Rep}
use Rattle.share_state.specs.declared.request.RepBody.{RepBody}
use Rattle.share_state.specs.declared.request.RepBody.TheVariants as body
use Rattle.share_state.specs.Reply.{attributes_of}
use Rattle.fs_plain.specs.Masked.{Untold}
use Rattle.share_box.specs.declared.bodies.Said.{Said}
use Rattle.share_box.specs.declared.bodies.Said.TheVariants.{Negotiated, Challenge, Session, Tree, Done, Share}

-- NEGOTIATE: signing enabled, SMB 2.1, a server id, leases and large sizes, no time and no token
abbrev pub negotiated : List Field
negotiated =
    U16 1 ∷ U16 0x0210 ∷ Any16 0 ∷ Block (replicate 16 0xAA) ∷ U32 6 ∷ U32 1048576 ∷ U32 1048576 ∷ U32 1048576 ∷ U64 0 ∷ U64 0
    ∷ Offset16 ∷ U16 0 ∷ Any32 0 ∷ []

-- NTLM's message of type 2 (MS-NLMP 2.2.1.2): its name, its type, no target name, its flags, no challenge, reserved bytes, no target
-- information and no version
abbrev pub challenge : List ℕ
challenge =
    0x4E ∷ 0x54 ∷ 0x4C ∷ 0x4D ∷ 0x53 ∷ 0x53 ∷ 0x50 ∷ 0 ∷ 2 ∷ 0 ∷ 0 ∷ 0 ∷ 0 ∷ 0 ∷ 0 ∷ 0 ∷ 56 ∷ 0 ∷ 0 ∷ 0 ∷ 5 ∷ 2 ∷ 0 ∷ 0
    ∷ 0 ∷ 0 ∷ 0 ∷ 0 ∷ 0 ∷ 0 ∷ 0 ∷ 0 ∷ 0 ∷ 0 ∷ 0 ∷ 0 ∷ 0 ∷ 0 ∷ 0 ∷ 0 ∷ 0 ∷ 0 ∷ 0 ∷ 0 ∷ 56 ∷ 0 ∷ 0 ∷ 0
    ∷ 0 ∷ 0 ∷ 0 ∷ 0 ∷ 0 ∷ 0 ∷ 0 ∷ 0 ∷ []

-- SESSION_SETUP: its flags, and a token of so many bytes
abbrev pub session : ℕ → ℕ → List Field
session flags size = U16 flags ∷ Offset16 ∷ U16 size ∷ []

-- TREE_CONNECT: a disk on which everything is allowed
abbrev pub tree : List Field
tree = U8 1 ∷ Any8 0 ∷ U32 0 ∷ U32 0 ∷ U32 0x001F01FF ∷ []

-- the body without a field
abbrev pub empty : List Field
empty = Any16 0 ∷ []

-- a refusal
abbrev pub error : List Field
error = U8 0 ∷ Any8 0 ∷ U32 0 ∷ Follows ∷ []

-- CREATE: no lease, the action, no times, the size twice, the attributes, the file id and no contexts
abbrev pub opened : Fid → ℕ → ℕ → ℕ → List Field
opened fid action size attributes =
    U8 0 ∷ U8 0 ∷ U32 action ∷ U64 0 ∷ U64 0 ∷ U64 0 ∷ U64 0 ∷ U64 size ∷ U64 size ∷ U32 attributes ∷ Any32 0
    ∷ U64 fid.persistent ∷ U64 fid.volatile ∷ Offset32 ∷ U32 0 ∷ []

-- CLOSE: nothing is told
abbrev pub closed : List Field
closed = U16 0 ∷ Any32 0 ∷ U64 0 ∷ U64 0 ∷ U64 0 ∷ U64 0 ∷ U64 0 ∷ U64 0 ∷ U32 0 ∷ []

abbrev pub number_of : Bool → ℕ
number_of b = if b then 1 else 0

-- FileAllInformation: no times, the attributes, the size twice, the links, whether the entry is to go, whether it is a directory, the
-- number, and the rest 0
abbrev pub all : Bool → ℕ → Bool → ℕ → Bool → ℕ → List Field
all dir size read_only links pending number =
    U64 0 ∷ U64 0 ∷ U64 0 ∷ U64 0 ∷ U32 (attributes_of dir read_only) ∷ Any32 0 ∷ U64 size ∷ U64 size ∷ U32 links
    ∷ U8 (number_of pending) ∷ U8 (number_of dir) ∷ Any16 0 ∷ U64 number ∷ U32 0 ∷ U32 0 ∷ U64 0 ∷ U32 0 ∷ U32 0 ∷ Any32 0 ∷ []

-- FileStandardInformation: the size twice, the links, whether the entry is to go, and whether it is a directory
abbrev pub standard : Bool → ℕ → ℕ → Bool → List Field
standard dir size links pending =
    U64 size ∷ U64 size ∷ U32 links ∷ U8 (number_of pending) ∷ U8 (number_of dir) ∷ Any16 0 ∷ []

-- what a reply leaves out is what FileStandardInformation has not
abbrev pub in_part : Untold → Bool
in_part Untold.NumberAndMark = true
in_part u = false

-- the information that a query is answered with: FileStandardInformation, or all that is known; and how many bytes it has
abbrev pub information : Bool → RepBody → List Field
information true (body.Info dir size read_only links pending number) = standard dir size links pending
information false (body.Info dir size read_only links pending number) = all dir size read_only links pending number
information part b = []

abbrev pub information_size : Bool → ℕ
information_size part = if part then 24 else 100

-- QUERY_INFO: a buffer of so many bytes
abbrev pub buffer : ℕ → List Field
buffer size = Offset16 ∷ U32 size ∷ []

-- the body of what was done on the share, told in part or as a whole
abbrev pub body_done : Bool → RepBody → List ℕ
body_done part (body.Opened fid action size attributes lease durable) = spelling 89 (opened fid action size attributes) []
body_done part (body.Info dir size read_only links pending number) =
    spelling 9 (buffer (information_size part)) (spelling_in (information part (body.Info dir size read_only links pending number)) [])
body_done part b = spelling 60 closed []

-- the body of a reply of the share
abbrev pub body_of_rep : Bool → Rep → List ℕ
body_of_rep part rep = if rep.status.0 == 0 then body_done part rep.body else spelling 9 error []

-- the body of a reply
unfoldable pub body_of : Bool → Said → List ℕ
body_of part Negotiated = spelling 65 negotiated []
body_of part Challenge = spelling 9 (session 0 56) challenge
body_of part Session = spelling 9 (session 2 0) []
body_of part Tree = spelling 16 tree []
body_of part Done = spelling 4 empty []
body_of part (Share rep) = body_of_rep part rep

-- its status: a challenge asks for one more message
abbrev pub status_of : Said → Status
status_of Negotiated = record { 0 = 0 }
status_of Challenge = record { 0 = 0xC0000016 }
status_of Session = record { 0 = 0 }
status_of Tree = record { 0 = 0 }
status_of Done = record { 0 = 0 }
status_of (Share rep) = rep.status

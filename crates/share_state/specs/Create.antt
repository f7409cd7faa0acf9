-- Create (MS-FSA 2.1.5.1), with the lease and the durable open that it may want. The order of the checks is this project's own.
use Rattle.std.specs.Prelude.{ℕ, ◌==◌, ◌+◌, Bool, true, false, not, ◌&&◌, ◌||◌, nat_le, if◌then◌else◌, List, [], ◌∷◌, ◌++◌, map, Option, Some, None}
use Rattle.std.specs.List.{list_any, list_all}
use Rattle.share_state.specs.declared.connection.Grant.{Grant}
use Rattle.share_state.specs.declared.granting.Granting.{Granting}
use Rattle.share_state.specs.declared.opens.Open.{Open}
use Rattle.share_state.specs.declared.place.Found.{Found}
use Rattle.share_state.specs.declared.place.Place.{Place}
use Rattle.share_state.specs.declared.place.Place.TheVariants.{NoPath, Missing, There}
use Rattle.share_state.specs.declared.wanted.Wanted.{Wanted}
use Rattle.share_state.specs.declared.request.Who.{Who}
use Rattle.share_state.specs.declared.request.Rep.{Rep}
use Rattle.share_state.specs.declared.share.Share.{Share}
use Rattle.share_state.specs.Names.{is_name, components}
use Rattle.share_state.specs.State.{has, is_directory, is_read_only, size_of, emptied, has_entries, is_pending, is_going}
use Rattle.share_state.specs.Place.{place_of}
use Rattle.share_state.specs.Leases.{is_elsewhere, granting_of, with_granting}
use Rattle.share_state.specs.Reply.{refused, unless, attributes_of, granted_reply}

-- OPEN 1, CREATE 2, OPEN_IF 3, OVERWRITE 4, OVERWRITE_IF 5 (MS-SMB2 2.2.13)
abbrev pub is_disposition : ℕ → Bool
is_disposition d = nat_le 1 d && nat_le d 5

-- OVERWRITE and OVERWRITE_IF take the bytes away of what is there
abbrev pub overwrites : ℕ → Bool
overwrites d = nat_le 4 d

-- READ_DATA 1, WRITE_DATA 2, APPEND_DATA 4 and DELETE 0x10000 each have to be shared: as reading 1, writing 2, writing and deleting 4
abbrev pub is_within : ℕ → ℕ → Bool
is_within access share =
    (not (has access 1) || has share 1) && (not (has access 6) || has share 2) && (not (has access 0x10000) || has share 4)

-- an access that has one of these four takes part in sharing
abbrev pub takes_part : ℕ → Bool
takes_part access = has access 0x10007

-- two opens of one node do not go together: both take part, and what one does is not within what the other shares (MS-FSA
-- 2.1.5.1.2.2)
abbrev pub is_unshared : Wanted → Open → Bool
is_unshared w o = takes_part w.access && takes_part o.access && not (is_within w.access o.share && is_within o.access w.share)

-- some open of the node does not share what is wanted, or does what is not to be shared
abbrev pub has_unshared : List Open → ℕ → Wanted → Bool
has_unshared opens node w = list_any (λ o. o.node == node && is_unshared w o) opens

-- why a Create is refused whose key stands on another node
abbrev pub refusal_of_key : Share → Who → Wanted → ℕ → Option ℕ
refusal_of_key s who w node = if is_elsewhere s.leases who w.lease node then Some 0xC000000D else None  -- INVALID_PARAMETER

-- why a Create is refused whose name is missing in a directory; what it would make is no node yet, so each node is another
abbrev pub refusal_of_missing : Share → Who → Wanted → ℕ → Option ℕ
refusal_of_missing s who w d =
    if w.disposition == 1 || w.disposition == 4 then Some 0xC0000034  -- OPEN, OVERWRITE: OBJECT_NAME_NOT_FOUND
    else if is_going s.entries d then Some 0xC0000056  -- the directory is to go: DELETE_PENDING
    else refusal_of_key s who w 0

-- why a Create is refused for the kind of what its name stands for
abbrev pub refusal_of_kind : Share → Wanted → ℕ → Option ℕ
refusal_of_kind s w node =
    if has w.options 1 && not (is_directory s.nodes node) then Some 0xC0000103  -- DIRECTORY_FILE: NOT_A_DIRECTORY
    else if has w.options 0x40 && is_directory s.nodes node then Some 0xC00000BA  -- NON_DIRECTORY_FILE: FILE_IS_A_DIRECTORY
    else if overwrites w.disposition && is_directory s.nodes node then Some 0xC000000D  -- INVALID_PARAMETER
    else None

-- why a Create is refused since what its name stands for is read-only
abbrev pub refusal_of_read_only : Share → Wanted → ℕ → Option ℕ
refusal_of_read_only s w node =
    if not (is_read_only s.nodes node) then None
    else if not (is_directory s.nodes node) && (has w.access 6 || overwrites w.disposition) then Some 0xC0000022  -- ACCESS_DENIED
    else if has w.options 0x1000 then Some 0xC0000121  -- DELETE_ON_CLOSE: CANNOT_DELETE
    else None

-- the first of two reasons
abbrev pub or_else : Option ℕ → Option ℕ → Option ℕ
or_else (Some status) later = Some status
or_else None later = later

-- why a Create is refused since others have it open, or since it is a directory with entries that is to go
abbrev pub refusal_of_use : Share → Wanted → ℕ → Option ℕ
refusal_of_use s w node =
    if has_unshared s.opens node w then Some 0xC0000043  -- SHARING_VIOLATION
    else if has w.options 0x1000 && is_directory s.nodes node && has_entries s.entries node then Some 0xC0000101  -- DIRECTORY_NOT_EMPTY
    else None

-- why a Create is refused whose name is there, the first reason of all
abbrev pub refusal_of_there : Share → Who → Wanted → Found → Option ℕ
refusal_of_there s who w f =
    if is_pending s.entries f.entry then Some 0xC0000056  -- DELETE_PENDING
    else if w.disposition == 2 then Some 0xC0000035  -- CREATE: OBJECT_NAME_COLLISION
    else or_else (refusal_of_kind s w f.node)
    (or_else (refusal_of_read_only s w f.node) (or_else (refusal_of_key s who w f.node) (refusal_of_use s w f.node)))

-- the open that a Create makes, with what it is granted
abbrev pub open_with : ℕ → Who → Wanted → Granting → ℕ → ℕ → Open
open_with number who w g node entry = record {
  number = number;
  who = who;
  node = node;
  entry = entry;
  access = w.access;
  share = w.share;
  key = g.key;
  durable = g.durable;
  connected = true;
  delete_on_close = has w.options 0x1000;
  snapshot = None;
}

-- the share with one more open
abbrev pub with_open : Open → Share → Share
with_open o s = record s { opens = s.opens ++ o ∷ []; opens_made = s.opens_made + 1 }

-- the share with a new and empty node under a name in a directory
abbrev pub with_new : ℕ → List ℕ → Bool → Bool → Share → Share
with_new d name dir read_only s = record s {
  nodes = s.nodes ++ record { number = s.nodes_made + 1; dir = dir; bytes = []; read_only = read_only } ∷ [];
  nodes_made = s.nodes_made + 1;
  entries = s.entries ++ record { number = s.entries_made + 1; directory = d; name = name; node = s.nodes_made + 1; pending = false } ∷ [];
  entries_made = s.entries_made + 1;
}

-- a Create that makes a file, or a directory with DIRECTORY_FILE, read-only as the attributes say, and opens it: action 2
abbrev pub made : Share → Who → Wanted → Granting → ℕ → List ℕ → Rep × Share
made s who w g d name = (
  granted_reply g (s.opens_made + 1) 2 0 (attributes_of (has w.options 1) (has w.attributes 1)),
  with_granting who g (s.nodes_made + 1)
      (with_new d name (has w.options 1) (has w.attributes 1)
      (with_open (open_with (s.opens_made + 1) who w g (s.nodes_made + 1) (s.entries_made + 1)) s)),
)

-- a Create that opens what is there: action 1, or 3 where its bytes are taken away
abbrev pub opened : Share → Who → Wanted → Granting → Found → Rep × Share
opened s who w g f = (
  granted_reply g (s.opens_made + 1) (if overwrites w.disposition then 3 else 1)
      (if overwrites w.disposition then 0 else size_of s.nodes f.node)
      (attributes_of (is_directory s.nodes f.node) (is_read_only s.nodes f.node)),
  with_granting who g f.node
      (with_open (open_with (s.opens_made + 1) who w g f.node f.entry)
      (if overwrites w.disposition then record s { nodes = map (emptied f.node) s.nodes } else s)),
)

-- a Create at the place where its path leads; OBJECT_PATH_NOT_FOUND where it leads nowhere
abbrev pub create_at : Option Grant → Share → Who → Wanted → Place → Rep × Share
create_at choice s who w NoPath = refused 0xC000003A s
create_at choice s who w (Missing d name) =
    unless (refusal_of_missing s who w d) s (made s who w (granting_of choice s who w (s.nodes_made + 1)) d name)
create_at choice s who w (There f) =
    unless (refusal_of_there s who w f) s (opened s who w (granting_of choice s who w f.node) f)

-- a Create, where the share chose so, or as much as it may: INVALID_PARAMETER at another disposition, OBJECT_NAME_INVALID where a
-- component is no name, and then at its place
abbrev pub create_of : Option Grant → Share → Who → List ℕ → Wanted → Rep × Share
create_of choice s who path w =
    if not (is_disposition w.disposition) then refused 0xC000000D s
    else if not (list_all is_name (components path)) then refused 0xC0000033 s
    else create_at choice s who w (place_of s (components path))

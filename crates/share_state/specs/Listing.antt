-- The names of a directory, as many as fit at a time (MS-FSA 2.1.5.6.3, MS-FSCC 2.4.18).
use Rattle.std.specs.Prelude.{ℕ, ◌+◌, ◌*◌, ◌/◌, ◌==◌, Bool, true, false, ◌&&◌, ◌||◌, nat_le, nat_lt, if◌then◌else◌, List, [], ◌∷◌, map, filter, length, take, drop, Option, Some, None}
use Rattle.smb_base.specs.declared.names.Fid.{Fid}
use Rattle.share_state.specs.declared.entry.Entry.{Entry}
use Rattle.share_state.specs.declared.listing.ShareName.{ShareName}
use Rattle.share_state.specs.declared.node.Node.{Node}
use Rattle.share_state.specs.declared.opens.Open.{Open}
use Rattle.share_state.specs.declared.request.Who.{Who}
use Rattle.share_state.specs.declared.request.Rep.{Rep}
use Rattle.share_state.specs.declared.request.RepBody.TheVariants as body
use Rattle.share_state.specs.declared.share.Share.{Share}
use Rattle.share_state.specs.State.{edited, has, is_directory, is_read_only, size_of}
use Rattle.share_state.specs.Close.{is_open_of, open_of}
use Rattle.share_state.specs.On.{on_open}
use Rattle.share_state.specs.Reply.{refused, unless}

-- a node under a name
abbrev pub name_of : List Node → List ℕ → ℕ → ShareName
name_of nodes name node = record {
  name = name;
  dir = is_directory nodes node;
  size = size_of nodes node;
  read_only = is_read_only nodes node;
  number = node;
}

-- the directory that has a node, the root for the root
abbrev pub parent_of : List Entry → ℕ → ℕ
parent_of [] node = 1
parent_of (e ∷ es) node = if e.node == node then e.directory else parent_of es node

-- one name comes before another, unit by unit; of two that begin alike the shorter one
abbrev pub comes_before : List ℕ → List ℕ → Bool
comes_before [] [] = false
comes_before [] (y ∷ ys) = true
comes_before (x ∷ xs) [] = false
comes_before (x ∷ xs) (y ∷ ys) = nat_lt x y || x == y && comes_before xs ys

-- a name at its place among names in order
abbrev pub put_in_order : ShareName → List ShareName → List ShareName
put_in_order n [] = n ∷ []
put_in_order n (m ∷ ms) = if comes_before m.name n.name then m ∷ put_in_order n ms else n ∷ m ∷ ms

-- names in the order of their units
abbrev pub in_order : List ShareName → List ShareName
in_order [] = []
in_order (n ∷ ns) = put_in_order n (in_order ns)

-- the names of a directory, those among them that are to go
abbrev pub names_in : Share → ℕ → List ShareName
names_in s d = map (λ e. name_of s.nodes e.name e.node) (filter (λ e. e.directory == d) s.entries)

-- what a listing of a directory gives in all: itself as `.`, the one above it as `..`, and its names in order
abbrev pub snapshot_of : Share → ℕ → List ShareName
snapshot_of s d = name_of s.nodes (0x2E ∷ []) d ∷ name_of s.nodes (0x2E ∷ 0x2E ∷ []) (parent_of s.entries d) ∷ in_order (names_in s d)

-- the bytes of a name in a reply: 80, and two for each unit
abbrev pub size_in_reply : ShareName → ℕ
size_in_reply n = 80 + 2 * length n.name

-- a number of bytes, raised to a multiple of 8
abbrev pub raised_to_8 : ℕ → ℕ
raised_to_8 bytes = (bytes + 7) / 8 * 8

-- how many of these names fit behind so many bytes: each but the last is raised to a multiple of 8
abbrev pub fitting : ℕ → ℕ → List ShareName → ℕ
fitting room before [] = 0
fitting room before (n ∷ ns) =
    if nat_le (raised_to_8 before + size_in_reply n) room then 1 + fitting room (raised_to_8 before + size_in_reply n) ns else 0

-- how many a reply has of the names that are left: as many as fit, and at least one
abbrev pub in_reply : ℕ → List ShareName → ℕ
in_reply room [] = 0
in_reply room (n ∷ ns) = 1 + fitting room (size_in_reply n) ns

-- the names that are left of a listing: all of them where none was begun, or where it begins again
abbrev pub left_in : List ShareName → Bool → Option (List ShareName) → List ShareName
left_in all restart None = all
left_in all restart (Some left) = if restart then all else left

abbrev pub left_of : Share → Open → Bool → List ShareName
left_of s o restart = left_in (snapshot_of s o.node) restart o.snapshot

-- the listing that an open has begun
abbrev pub snapshot_in : Option Open → Option (List ShareName)
snapshot_in None = None
snapshot_in (Some o) = o.snapshot

-- the opens, the one that a file id names with this listing
abbrev pub with_snapshot : Who → Fid → Option (List ShareName) → List Open → List Open
with_snapshot who fid snapshot opens = edited (is_open_of who fid) (λ o. record o { snapshot = snapshot }) opens

-- why a List is refused: it needs READ_DATA on a directory
abbrev pub refusal_of_list : Share → Open → Option ℕ
refusal_of_list s o = if has o.access 1 && is_directory s.nodes o.node then None else Some 0xC0000022  -- ACCESS_DENIED

-- the next names of those that are left; NO_MORE_FILES where none is
abbrev pub names_reply : Share → Who → Fid → List ShareName → ℕ → Rep × Share
names_reply s who fid [] room = refused 0x80000006 s
names_reply s who fid (n ∷ ns) room = (
  record { status = record { 0 = 0 }; body = body.Names (take (in_reply room (n ∷ ns)) (n ∷ ns)) },
  record s { opens = with_snapshot who fid (Some (drop (in_reply room (n ∷ ns)) (n ∷ ns))) s.opens },
)

abbrev pub list_of : Share → Who → Fid → Bool → ℕ → Rep × Share
list_of s who fid restart room =
    on_open (open_of s.opens who fid) s (λ o. unless (refusal_of_list s o) s (names_reply s who fid (left_of s o restart) room))

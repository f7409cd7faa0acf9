-- The read-only mark of a file, and the mark of an entry that goes (MS-FSA 2.1.5.15.2, 2.1.5.15.3).
use Rattle.std.specs.Prelude.{ℕ, ◌==◌, Bool, not, ◌&&◌, ◌||◌, if◌then◌else◌, map, Option, Some, None}
use Rattle.smb_base.specs.declared.names.Fid.{Fid}
use Rattle.share_state.specs.declared.entry.Entry.{Entry}
use Rattle.share_state.specs.declared.node.Node.{Node}
use Rattle.share_state.specs.declared.opens.Open.{Open}
use Rattle.share_state.specs.declared.request.Who.{Who}
use Rattle.share_state.specs.declared.request.Rep.{Rep}
use Rattle.share_state.specs.declared.share.Share.{Share}
use Rattle.share_state.specs.State.{has, is_directory, is_read_only, has_entries}
use Rattle.share_state.specs.Close.{open_of}
use Rattle.share_state.specs.On.{on_open}
use Rattle.share_state.specs.Reply.{of_status, unless}

-- why new attributes are refused: they need WRITE_ATTRIBUTES
abbrev pub refusal_of_basic : Open → Option ℕ
refusal_of_basic o = if has o.access 0x100 then None else Some 0xC0000022  -- ACCESS_DENIED

-- a node, read-only or not where it has this number
abbrev pub with_read_only : ℕ → Bool → Node → Node
with_read_only n on x = if x.number == n then record x { read_only = on } else x

-- the share once a node gets these attributes: READONLY is bit 1; 0 changes nothing
abbrev pub with_attributes : ℕ → ℕ → Share → Share
with_attributes n attributes s =
    if attributes == 0 then s else record s { nodes = map (with_read_only n (has attributes 1)) s.nodes }

abbrev pub basic_of : Share → Who → Fid → ℕ → Rep × Share
basic_of s who fid attributes =
    on_open (open_of s.opens who fid) s (λ o. unless (refusal_of_basic o) s (of_status 0, with_attributes o.node attributes s))

-- why an entry may not be marked, or its mark taken back
abbrev pub refusal_of_mark : Share → Open → Option ℕ
refusal_of_mark s o =
    if not (has o.access 0x10000) then Some 0xC0000022  -- DELETE: ACCESS_DENIED
    else if o.node == 1 || is_read_only s.nodes o.node then Some 0xC0000121  -- the root, or read-only: CANNOT_DELETE
    else if is_directory s.nodes o.node && has_entries s.entries o.node then Some 0xC0000101  -- DIRECTORY_NOT_EMPTY
    else None

-- an entry, on its way to go or not where it has this number
abbrev pub with_pending : ℕ → Bool → Entry → Entry
with_pending n on e = if e.number == n then record e { pending = on } else e

abbrev pub mark_of : Share → Who → Fid → Bool → Rep × Share
mark_of s who fid on =
    on_open (open_of s.opens who fid) s (λ o. unless (refusal_of_mark s o) s
    (of_status 0, record s { entries = map (with_pending o.entry on) s.entries }))

-- Close (MS-FSA 2.1.5.5), and what goes with an open.
use Rattle.std.specs.Prelude.{ℕ, ◌==◌, Bool, false, not, ◌&&◌, ◌||◌, if◌then◌else◌, List, [], ◌∷◌, map, filter, Option, Some, None}
use Rattle.std.specs.List.{list_any}
use Rattle.std.specs.Str.{bytes_eq}
use Rattle.smb_base.specs.declared.names.Fid.{Fid}
use Rattle.smb_base.specs.declared.names.Key.{Key}
use Rattle.share_state.specs.declared.entry.Entry.{Entry}
use Rattle.share_state.specs.declared.node.Node.{Node}
use Rattle.share_state.specs.declared.lock.Lock.{Lock}
use Rattle.share_state.specs.declared.lease.Lease.{Lease}
use Rattle.share_state.specs.declared.opens.Open.{Open}
use Rattle.share_state.specs.declared.request.Who.{Who}
use Rattle.share_state.specs.declared.request.Rep.{Rep}
use Rattle.share_state.specs.declared.share.Share.{Share}
use Rattle.share_state.specs.State.{has_entries, is_named, marked, has_open_of_entry, has_open_of_node}
use Rattle.share_state.specs.Reply.{refused, of_status}

-- a file id names an open: its number in both halves, of this client, which is connected
abbrev pub is_open_of : Who → Fid → Open → Bool
is_open_of who fid o = o.number == fid.persistent && o.number == fid.volatile && o.who.0 == who.0 && o.connected

-- the open that a file id of a client names
abbrev pub open_of : List Open → Who → Fid → Option Open
open_of [] who fid = None
open_of (o ∷ os) who fid = if is_open_of who fid o then Some o else open_of os who fid

-- the opens but the one with this number
abbrev pub opens_but : ℕ → List Open → List Open
opens_but n opens = filter (λ o. not (o.number == n)) opens

-- the locked ranges but those of this open
abbrev pub locks_but : ℕ → List Lock → List Lock
locks_but n locks = filter (λ l. not (l.holder == n)) locks

-- the entries that stay: those that are not to go, or that some open has
abbrev pub kept_entries : List Open → List Entry → List Entry
kept_entries opens entries = filter (λ e. not e.pending || has_open_of_entry opens e.number) entries

-- the nodes that stay: the root, and those that some entry stands for or some open is of
abbrev pub kept_nodes : List Open → List Entry → List Node → List Node
kept_nodes opens entries nodes =
    filter (λ x. x.number == 1 || is_named entries x.number || has_open_of_node opens x.number) nodes

-- this is the key of an open, if it has one
abbrev pub is_key_of : Key → Option Key → Bool
is_key_of key None = false
is_key_of key (Some own) = bytes_eq own.0 key.0

-- some open of this client has this key
abbrev pub has_open_of_key : List Open → Who → Key → Bool
has_open_of_key opens who key = list_any (λ o. o.who.0 == who.0 && is_key_of key o.key) opens

-- the leases that stay: those that some open has
abbrev pub kept_leases : List Open → List Lease → List Lease
kept_leases opens leases = filter (λ l. has_open_of_key opens l.who l.key) leases

-- the entries once an open ends: its own is to go where it was opened so, unless its directory has entries
abbrev pub after_delete : Bool → ℕ → ℕ → List Entry → List Entry
after_delete delete node entry entries =
    if delete && not (has_entries entries node) then map (marked entry) entries else entries

-- the share without what nothing holds any more: entries that are to go, nodes without entry and open, leases without open
abbrev pub settled : Share → Share
settled s = record s {
  entries = kept_entries s.opens s.entries;
  nodes = kept_nodes s.opens (kept_entries s.opens s.entries) s.nodes;
  leases = kept_leases s.opens s.leases;
}

-- the share once an open ends, given what the open was
abbrev pub ended : ℕ → ℕ → ℕ → Bool → Share → Share
ended number node entry delete s = settled (record s {
  opens = opens_but number s.opens;
  locks = locks_but number s.locks;
  entries = after_delete delete node entry s.entries;
})

-- the same, given the open
abbrev pub closed : Open → Share → Share
closed o s = ended o.number o.node o.entry o.delete_on_close s

-- a Close of what a file id names; FILE_CLOSED where it names nothing
abbrev pub close_open : Option Open → Share → Rep × Share
close_open None s = refused 0xC0000128 s
close_open (Some o) s = (of_status 0, closed o s)

abbrev pub close_of : Share → Who → Fid → Rep × Share
close_of s who fid = close_open (open_of s.opens who fid) s

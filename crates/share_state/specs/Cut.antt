-- What a lost connection leaves (MS-SMB2 3.3.7.1), and a new one.
use Rattle.std.specs.Prelude.{◌==◌, Bool, true, false, not, ◌&&◌, ◌||◌, is_some, if◌then◌else◌, List, [], ◌∷◌, map, filter}
use Rattle.std.specs.List.{list_any}
use Rattle.smb_base.specs.declared.names.Key.{Key}
use Rattle.share_state.specs.declared.lease.Lease.{Lease}
use Rattle.share_state.specs.declared.opens.Open.{Open}
use Rattle.share_state.specs.declared.request.Who.{Who}
use Rattle.share_state.specs.declared.share.Share.{Share}
use Rattle.share_state.specs.Close.{is_key_of, closed}

-- the share once these opens end, one after the other, each as by a Close
abbrev pub all_closed : List Open → Share → Share
all_closed [] s = s
all_closed (o ∷ os) s = all_closed os (closed o s)

-- the lease of an open has a break asked
abbrev pub is_broken : List Lease → Open → Bool
is_broken leases o = list_any (λ l. l.who.0 == o.who.0 && is_key_of l.key o.key && is_some l.asked) leases

-- an open of the client ends with its connection: it is not durable, or a break of its lease is asked
abbrev pub ends_with : Who → List Lease → Open → Bool
ends_with who leases o = o.who.0 == who.0 && (not o.durable || is_broken leases o)

-- an open, disconnected where it is of this client
abbrev pub disconnected : Who → Open → Open
disconnected who o = if o.who.0 == who.0 then record o { connected = false } else o

-- what the share loses with a connection: what was sent on it and not taken
abbrev pub lost_by_share : Share → Share
lost_by_share s = record s { connected = false; sent = [] }

-- what the client loses once it is told: what it is owed and did not get, and the bytes that it holds of a frame
abbrev pub lost_by_client : Share → Share
lost_by_client s = record s { owed = []; held = [] }

-- the lists of the share once a client's connection is lost
abbrev pub after_cut_of : Who → Share → Share
after_cut_of who s =
    let left : Share = all_closed (filter (ends_with who s.leases) s.opens) s in
    record left { opens = map (disconnected who) left.opens }

-- the connection of client 0 is lost at the share
abbrev pub after_loss : Share → Share
after_loss s = lost_by_share (after_cut_of (record { 0 = 0 }) s)

-- it is lost, and the client is told so at once
abbrev pub after_cut : Share → Share
after_cut s = lost_by_client (after_loss s)

-- a new connection of client 0 begins empty; the disconnected opens stay as they are until they are reclaimed or dropped
abbrev pub after_join : Share → Share
after_join s = record (lost_by_client (lost_by_share s)) { connected = true }

-- the share drops the disconnected opens of client 0 under a key
abbrev pub after_drop : Key → Share → Share
after_drop key s = all_closed (filter (λ o. o.who.0 == 0 && not o.connected && is_key_of key o.key) s.opens) s

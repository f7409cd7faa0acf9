-- Leases: their states (MS-SMB2 2.2.13.2.8), whose one is, and what a Create is granted. What bounds a grant is this project's own rule.
use Rattle.std.specs.Prelude.{ℕ, ◌==◌, ◌+◌, Bool, true, false, not, ◌&&◌, ◌||◌, is_some, if◌then◌else◌, List, [], ◌∷◌, ◌++◌, map, Option, Some, None}
use Rattle.std.specs.List.{list_any}
use Rattle.std.specs.Str.{bytes_eq}
use Rattle.smb_base.specs.declared.names.Key.{Key}
use Rattle.share_state.specs.declared.connection.Grant.{Grant}
use Rattle.share_state.specs.declared.wanted.Wanted.{Wanted}
use Rattle.share_state.specs.declared.granting.Granting.{Granting}
use Rattle.share_state.specs.declared.lease.Lease.{Lease}
use Rattle.share_state.specs.declared.lock.Lock.{Lock}
use Rattle.share_state.specs.declared.opens.Open.{Open}
use Rattle.share_state.specs.declared.request.Who.{Who}
use Rattle.share_state.specs.declared.share.Share.{Share}
use Rattle.share_state.specs.State.{has}
use Rattle.share_state.specs.Close.{is_key_of}

-- a set of the bits R 1, H 2 and W 4
abbrev pub bits : Bool → Bool → Bool → ℕ
bits r h w = (if r then 1 else 0) + (if h then 2 else 0) + (if w then 4 else 0)

-- the state that is left of a lease once these bits are gone: none, R, RH, RW or RWH, lowered where it would be another
abbrev pub lowered : ℕ → ℕ → ℕ
lowered state gone = if has state 1 && not (has gone 1)
    then bits true (has state 2 && not (has gone 2)) (has state 4 && not (has gone 4)) else 0

-- a lease is this client's under this key
abbrev pub is_lease_of : Who → Key → Lease → Bool
is_lease_of who key l = l.who.0 == who.0 && bytes_eq l.key.0 key.0

-- the lease of a client under a key, where one stands
abbrev pub lease_of : List Lease → Who → Key → Option Lease
lease_of [] who key = None
lease_of (l ∷ ls) who key = if is_lease_of who key l then Some l else lease_of ls who key

-- a lease under the key is another client's
abbrev pub is_taken : List Lease → Who → Key → Bool
is_taken leases who key = list_any (λ l. not (l.who.0 == who.0) && bytes_eq l.key.0 key.0) leases

-- a lease of the client under the key is on another node
abbrev pub has_elsewhere : List Lease → Who → Key → ℕ → Bool
has_elsewhere leases who key node = list_any (λ l. is_lease_of who key l && not (l.node == node)) leases

-- the key that is wanted stands on another node
abbrev pub is_elsewhere : List Lease → Who → Option (Key × ℕ) → ℕ → Bool
is_elsewhere leases who None node = false
is_elsewhere leases who (Some wish) node = has_elsewhere leases who wish.0 node

-- an open of the node that is not this client's under this key: one without a key is under another
abbrev pub is_of_another : Who → Key → ℕ → Open → Bool
is_of_another who key node o = o.node == node && not (o.who.0 == who.0 && is_key_of key o.key)

-- an open has a locked range
abbrev pub has_lock : List Lock → ℕ → Bool
has_lock locks number = list_any (λ l. l.holder == number) locks

-- an open under another key holds a locked range of the node
abbrev pub is_locked : Share → Who → Key → ℕ → Bool
is_locked s who key node = list_any (λ o. is_of_another who key node o && has_lock s.locks o.number) s.opens

-- one is to delete it
abbrev pub is_to_go : Share → Who → Key → ℕ → Bool
is_to_go s who key node = list_any (λ o. is_of_another who key node o && o.delete_on_close) s.opens

-- one may read it, write to it or append to it
abbrev pub is_used : Share → Who → Key → ℕ → Bool
is_used s who key node = list_any (λ o. is_of_another who key node o && has o.access 7) s.opens

-- the bits that these opens leave free
abbrev pub free_bits : Share → Who → Key → ℕ → ℕ
free_bits s who key node = bits (not (is_locked s who key node)) (not (is_to_go s who key node)) (not (is_used s who key node))

-- the state that stands, none where no lease does
abbrev pub standing_state : Option Lease → ℕ
standing_state None = 0
standing_state (Some l) = l.state

-- the wanted bits among those that are free, added to what stands, which no grant takes away; as far as that is a state
abbrev pub raised : ℕ → ℕ → ℕ → ℕ
raised standing wanted free = lowered (bits
    (has standing 1 || has wanted 1 && has free 1)
    (has standing 2 || has wanted 2 && has free 2)
    (has standing 4 || has wanted 4 && has free 4)) 0

-- the greatest state that may be granted over a lease: the one that stands while a break of it is asked, else with the wanted bits
abbrev pub greatest : Option Lease → ℕ → ℕ → ℕ
greatest None wanted free = raised 0 wanted free
greatest (Some l) wanted free = if is_some l.asked then l.state else raised l.state wanted free

abbrev pub greatest_on : Share → Who → Key × ℕ → ℕ → ℕ
greatest_on s who wish node = greatest (lease_of s.leases who wish.0) wish.1 (free_bits s who wish.0 node)

-- nothing granted
abbrev pub no_granting : Granting
no_granting = record { key = None; state = 0; durable = false }

-- what is granted under a key: as the share chose, or the greatest state, and a durable open where one is wanted and the state has H
abbrev pub granted : Option Grant → Key → ℕ → Bool → Granting
granted None key most durable = record { key = Some key; state = most; durable = durable && has most 2 }
granted (Some grant) key most durable = record { key = Some key; state = grant.lease; durable = grant.durable }

-- nothing is granted without a key, or under one that another client's lease has
abbrev pub granting_with : Option Grant → Share → Who → Option (Key × ℕ) → Bool → ℕ → Granting
granting_with choice s who None durable node = no_granting
granting_with choice s who (Some wish) durable node =
    if is_taken s.leases who wish.0 then no_granting else granted choice wish.0 (greatest_on s who wish node) durable

-- what a Create of this node is granted, where the share chose so, or as much as it may
abbrev pub granting_of : Option Grant → Share → Who → Wanted → ℕ → Granting
granting_of choice s who w node = granting_with choice s who w.lease w.durable node

-- a lease, in this state where it is the client's under the key
abbrev pub set_lease : Who → Key → ℕ → Lease → Lease
set_lease who key state l = if is_lease_of who key l then record l { state = state } else l

-- the leases once one under a key is granted on a node: the one that stands gets the state, and where none stands there is one more
abbrev pub with_lease : Who → Option Key → ℕ → ℕ → List Lease → List Lease
with_lease who None node state leases = leases
with_lease who (Some key) node state leases =
    if is_some (lease_of leases who key) then map (set_lease who key state) leases
    else leases ++ record { who = who; key = key; node = node; state = state; asked = None } ∷ []

-- the share once a Create of this node was granted so
abbrev pub with_granting : Who → Granting → ℕ → Share → Share
with_granting who g node s = record s { leases = with_lease who g.key node g.state s.leases }

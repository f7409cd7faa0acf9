-- The breaks that a request has to wait for. The table is this project's own; MS-FSA 2.1.4.12 has the breaks of a file server.
use Rattle.std.specs.Prelude.{ℕ, ◌==◌, Bool, false, not, ◌&&◌, ◌||◌, is_some, if◌then◌else◌, List, [], ◌∷◌, Option, Some, None}
use Rattle.std.specs.List.{list_all}
use Rattle.smb_base.specs.declared.names.Key.{Key}
use Rattle.share_state.specs.declared.lease.Lease.{Lease}
use Rattle.share_state.specs.declared.opens.Open.{Open}
use Rattle.share_state.specs.declared.place.Found.{Found}
use Rattle.share_state.specs.declared.place.Place.{Place}
use Rattle.share_state.specs.declared.place.Place.TheVariants.{NoPath, Missing, There}
use Rattle.share_state.specs.declared.wanted.Wanted.{Wanted}
use Rattle.share_state.specs.declared.request.Who.{Who}
use Rattle.share_state.specs.declared.request.Req.{Req}
use Rattle.share_state.specs.declared.request.Req.TheVariants as req
use Rattle.share_state.specs.declared.share.Share.{Share}
use Rattle.share_state.specs.Names.{is_name, components}
use Rattle.share_state.specs.State.{has, is_directory, is_pending}
use Rattle.share_state.specs.Place.{place_of}
use Rattle.share_state.specs.Tree.{is_beneath}
use Rattle.share_state.specs.Close.{open_of, is_key_of}
use Rattle.share_state.specs.Leases.{bits, lowered, is_lease_of}
use Rattle.share_state.specs.Create.{is_disposition, overwrites, has_unshared, refusal_of_kind, refusal_of_read_only, refusal_of_key}

-- the bits of other leases that a Create of what is there has to see gone
abbrev pub bits_of_create : Share → Wanted → ℕ → ℕ
bits_of_create s w node = bits
    (overwrites w.disposition)
    (overwrites w.disposition || has w.options 0x1000 || has_unshared s.opens node w)
    (overwrites w.disposition || has w.access 7)

-- the bits that a lease has to lose where a node is to be deleted or renamed: H where it is on that node, or on a file beneath it
abbrev pub gone_with : Share → ℕ → Lease → ℕ
gone_with s node l =
    if l.node == node || not (is_directory s.nodes l.node) && is_beneath s.entries s.entries node l.node then 2 else 0

-- the bits that a lease has to lose for a Create of what is there: those above where it is on the same node, and H where the Create is
-- to delete a directory above its file
abbrev pub gone_from : Share → Wanted → ℕ → Lease → ℕ
gone_from s w node l =
    if l.node == node then bits_of_create s w node
    else if has w.options 0x1000 then gone_with s node l else 0

-- a lease is the one that the Create has the key of
abbrev pub is_own : Who → Option (Key × ℕ) → Lease → Bool
is_own who None l = false
is_own who (Some wish) l = is_lease_of who wish.0 l

-- the leases under other keys that have a bit which has to be gone, each with the state to break it to
abbrev pub needs_in : (Lease → Bool) → (Lease → ℕ) → List Lease → List (Key × ℕ)
needs_in own gone [] = []
needs_in own gone (l ∷ ls) =
    if not (own l) && has l.state (gone l) then (l.key, lowered l.state (gone l)) ∷ needs_in own gone ls
    else needs_in own gone ls

abbrev pub needs_on : Share → Who → Wanted → ℕ → List (Key × ℕ)
needs_on s who w node = needs_in (is_own who w.lease) (gone_from s w node) s.leases

-- a Create that is refused before it comes to what others have open needs no break
abbrev pub is_refused_early : Share → Who → Wanted → Found → Bool
is_refused_early s who w f = is_pending s.entries f.entry || w.disposition == 2
    || is_some (refusal_of_kind s w f.node) || is_some (refusal_of_read_only s w f.node) || is_some (refusal_of_key s who w f.node)

abbrev pub needs_at : Share → Who → Wanted → Place → List (Key × ℕ)
needs_at s who w NoPath = []
needs_at s who w (Missing d name) = []
needs_at s who w (There f) = if is_refused_early s who w f then [] else needs_on s who w f.node

-- the breaks that a Create has to wait for
abbrev pub needs_of_create : Share → Who → List ℕ → Wanted → List (Key × ℕ)
needs_of_create s who path w =
    if is_disposition w.disposition && list_all is_name (components path) then needs_at s who w (place_of s (components path)) else []

-- a lease is the one that an open has the key of
abbrev pub is_of_open : Open → Lease → Bool
is_of_open o l = l.who.0 == o.who.0 && is_key_of l.key o.key

-- the breaks of a request on an open: other leases have to lose so much each
abbrev pub needs_but_own : Share → Open → (Lease → ℕ) → List (Key × ℕ)
needs_but_own s o gone = needs_in (is_of_open o) gone s.leases

-- the breaks of a request on what a file id names; none where it names nothing
abbrev pub needs_by : Share → Option Open → (Open → Lease → ℕ) → List (Key × ℕ)
needs_by s None gone = []
needs_by s (Some o) gone = needs_but_own s o (gone o)

-- so many bits on a node
abbrev pub gone_on : ℕ → ℕ → Lease → ℕ
gone_on node gone l = if l.node == node then gone else 0

-- the node that a Rename to this place would replace: that of another entry, where replacing is asked. No node has the number 0
abbrev pub replaced_at : Bool → ℕ → Place → ℕ
replaced_at replace entry NoPath = 0
replaced_at replace entry (Missing d name) = 0
replaced_at replace entry (There f) = if replace && not (f.entry == entry) && not (f.entry == 0) then f.node else 0

-- the node that a Rename to a path would replace
abbrev pub replaced_by : Share → Bool → ℕ → List (List ℕ) → ℕ
replaced_by s replace entry names = if list_all is_name names then replaced_at replace entry (place_of s names) else 0

-- what a lease has to lose of the renamed node and of the replaced one
abbrev pub gone_with_both : Share → ℕ → ℕ → Lease → ℕ
gone_with_both s node replaced l = if gone_with s replaced l == 0 then gone_with s node l else 2

-- the breaks that a request has to wait for: a Read W; a Write, a new end and a Lock R and W; what deletes or renames H; others none
abbrev pub needs_of : Share → Who → Req → List (Key × ℕ)
needs_of s who (req.Create path access share disposition options attributes lease durable) =
    needs_of_create s who path (record {
      access = access;
      share = share;
      disposition = disposition;
      options = options;
      attributes = attributes;
      lease = lease;
      durable = durable;
    })
needs_of s who (req.Read fid offset length) = needs_by s (open_of s.opens who fid) (λ o. gone_on o.node 4)
needs_of s who (req.Write fid offset bytes) = needs_by s (open_of s.opens who fid) (λ o. gone_on o.node 5)
needs_of s who (req.SetEnd fid size) = needs_by s (open_of s.opens who fid) (λ o. gone_on o.node 5)
needs_of s who (req.Lock fid offset length exclusive) = needs_by s (open_of s.opens who fid) (λ o. gone_on o.node 5)
needs_of s who (req.SetPending fid on) = if on then needs_by s (open_of s.opens who fid) (λ o. gone_with s o.node) else []
needs_of s who (req.Rename fid replace path) =
    needs_by s (open_of s.opens who fid) (λ o. gone_with_both s o.node (replaced_by s replace o.entry (components path)))
needs_of s who r = []

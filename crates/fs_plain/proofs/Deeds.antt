-- The requests on an open that neither make nor end one: what they keep, and that no lease and no connection counts for them.
use Rattle.std.proofs.Common.{◌≡◌, ℕ, true, false, [], ◌∷◌, ◌++◌, refl, ap, sym, subst, ◌∙◌, None, Some, List, Option, Bool, ◌==◌, not, ◌&&◌, if◌then◌else◌}
use Rattle.std.specs.Prelude.{map, is_none}
use Rattle.std.specs.List.{AllByRecursion, fold, list_all}
use Rattle.std.proofs.lemmas.Bool.{false≢true}
use Rattle.smb_base.specs.declared.names.Fid.{Fid}
use Rattle.share_state.specs.declared.connection.Grant.{Grant}
use Rattle.share_state.specs.declared.connection.Sent.{Sent}
use Rattle.share_state.specs.declared.connection.Owed.{Owed}
use Rattle.share_state.specs.declared.lease.Lease.{Lease}
use Rattle.share_state.specs.declared.listing.ShareName.{ShareName}
use Rattle.share_state.specs.declared.opens.Open.{Open}
use Rattle.share_state.specs.declared.place.Place.{Place}
use Rattle.share_state.specs.declared.place.Place.TheVariants.{NoPath, Missing, There}
use Rattle.share_state.specs.declared.request.Who.{Who}
use Rattle.share_state.specs.declared.request.Req.{Req}
use Rattle.share_state.specs.declared.request.Req.TheVariants as req
use Rattle.share_state.specs.declared.request.Rep.{Rep}
use Rattle.share_state.specs.declared.request.RepBody.TheVariants as body
use Rattle.share_state.specs.declared.share.Share.{Share}
use Rattle.share_state.specs.Names.{components, is_name}
use Rattle.share_state.specs.State.{has, edited, is_directory}
use Rattle.share_state.specs.Place.{below, place_of, root}
use Rattle.share_state.specs.Close.{is_open_of, open_of}
use Rattle.share_state.specs.Query.{query_open}
use Rattle.share_state.specs.On.{on_open}
use Rattle.share_state.specs.Data.{refusal_of_read, read_reply, refusal_of_write, count_reply, changed, written, refusal_of_end, resized, refusal_of_flush, room_reply}
use Rattle.share_state.specs.Locking.{refusal_of_lock, with_lock, refusal_of_unlock, unlocked}
use Rattle.share_state.specs.Marks.{refusal_of_basic, with_read_only, with_attributes, refusal_of_mark, with_pending}
use Rattle.share_state.specs.NewNames.{rename_to, link_to, refusal_of_rename, refusal_of_link, refusal_of_path, refusal_of_place, refusal_of_renaming, refusal_of_directory, refusal_of_target, refusal_of_link_at, directory_of, directory_at, entry_at, last_name, renamed, with_link}
use Rattle.share_state.specs.Listing.{refusal_of_list, names_reply, left_of, in_reply}
use Rattle.share_state.specs.Create.{or_else}
use Rattle.share_state.specs.Reply.{unless, refused, of_status, fid_of, map_fid}
use Rattle.share_state.specs.Step.{step_of}
use Rattle.std.specs.Prelude.{length, take, drop}
use Rattle.fs_plain.specs.Paired.{opened_number, open_given, Names}
use Rattle.fs_plain.specs.Alike.{bare}

-- a request on an open that neither makes nor ends one, or that the share does not do
abbrev pub is_deed : Req → Bool
is_deed (req.Create path access share disposition options attributes lease durable) = false
is_deed (req.Close fid) = false
is_deed other = true

-- the file id of such a request
abbrev pub fid_in : Req → Fid
fid_in (req.Create path access share disposition options attributes lease durable) = fid_of 0
fid_in (req.Close fid) = fid
fid_in (req.Query fid) = fid
fid_in (req.Flush fid) = fid
fid_in (req.Room fid) = fid
fid_in (req.Read fid offset length) = fid
fid_in (req.Write fid offset bytes) = fid
fid_in (req.Lock fid offset length exclusive) = fid
fid_in (req.Unlock fid offset length) = fid
fid_in (req.List fid restart room) = fid
fid_in (req.SetBasic fid attributes) = fid
fid_in (req.SetEnd fid size) = fid
fid_in (req.SetPending fid on) = fid
fid_in (req.Rename fid replace path) = fid
fid_in (req.LinkTo fid replace path) = fid
fid_in (req.Ack key state) = fid_of 0
fid_in (req.Reclaim fid key) = fid

-- what it comes to for a client, given the open that its file id names
abbrev pub deed_of : Share → Who → Req → Option Open → Rep × Share
deed_of s who (req.Create path access share disposition options attributes lease durable) found = refused 0xC00000BB s
deed_of s who (req.Close fid) found = refused 0xC00000BB s
deed_of s who (req.Query fid) found = query_open found s
deed_of s who (req.Flush fid) found = on_open found s (λ o. unless (refusal_of_flush o) s (of_status 0, s))
deed_of s who (req.Room fid) found = on_open found s (λ o. (room_reply s, s))
deed_of s who (req.Read fid offset length) found =
    on_open found s (λ o. unless (refusal_of_read s o offset length) s (read_reply s o offset length, s))
deed_of s who (req.Write fid offset bytes) found =
    on_open found s (λ o. unless (refusal_of_write s o offset (length bytes)) s (count_reply (length bytes), changed o.node (written offset bytes) s))
deed_of s who (req.Lock fid offset length exclusive) found =
    on_open found s (λ o. unless (refusal_of_lock s o offset length exclusive) s
    (of_status 0, with_lock (record { holder = o.number; offset = offset; length = length; exclusive = exclusive }) s))
deed_of s who (req.Unlock fid offset length) found =
    on_open found s (λ o. unless (refusal_of_unlock s o offset length) s
    (of_status 0, record s { locks = unlocked o.number offset length s.locks }))
deed_of s who (req.List fid restart room) found =
    on_open found s (λ o. unless (refusal_of_list s o) s (names_reply s who fid (left_of s o restart) room))
deed_of s who (req.SetBasic fid attributes) found =
    on_open found s (λ o. unless (refusal_of_basic o) s (of_status 0, with_attributes o.node attributes s))
deed_of s who (req.SetEnd fid size) found =
    on_open found s (λ o. unless (refusal_of_end s o size) s (of_status 0, changed o.node (resized size) s))
deed_of s who (req.SetPending fid on) found =
    on_open found s (λ o. unless (refusal_of_mark s o) s (of_status 0, record s { entries = map (with_pending o.entry on) s.entries }))
deed_of s who (req.Rename fid replace path) found = on_open found s (λ o. rename_to s o replace (components path))
deed_of s who (req.LinkTo fid replace path) found = on_open found s (λ o. link_to s o replace (components path))
deed_of s who (req.Ack key state) found = refused 0xC00000BB s
deed_of s who (req.Reclaim fid key) found = refused 0xC00000BB s

-- the names of a reply
abbrev names_told : List ShareName → ℕ → Rep
names_told left room = record { status = record { 0 = 0 }; body = body.Names (take (in_reply room left) left) }

-- it is what the share does
pub deed_is : (choice : Option Grant) (s : Share) (who : Who) (r : Req) → is_deed r ≡ true
    → step_of choice s who r ≡ deed_of s who r (open_of s.opens who (fid_in r))
deed_is choice s who (req.Create path access share disposition options attributes lease durable) deed = absurd (false≢true deed)
deed_is choice s who (req.Close fid) deed = absurd (false≢true deed)
deed_is choice s who other deed = refl

-- with another file id it is still a deed, and the same one on the open that this names
pub deed_mapped : (f : Fid → Fid) (r : Req) → is_deed r ≡ true → is_deed (map_fid f r) ≡ true
deed_mapped f (req.Create path access share disposition options attributes lease durable) deed = deed
deed_mapped f (req.Close fid) deed = deed
deed_mapped f other deed = refl

edited_as : (one other : Open → Bool) (edit : Open → Open) (opens : List Open) → AllByRecursion (λ o. one o ≡ other o) opens
    → edited one edit opens ≡ edited other edit opens
edited_as one other edit [] all = refl
edited_as one other edit (o ∷ os) all =
    ap (λ (t : Bool). if t then edit o ∷ os else o ∷ edited one edit os) all.0
    ∙ ap (λ (rest : List Open). if other o then edit o ∷ os else o ∷ rest) (edited_as one other edit os all.1)

names_as : (s : Share) (who : Who) (fid fid' : Fid) (left : List ShareName) (room : ℕ)
    → AllByRecursion (λ o. is_open_of who fid' o ≡ is_open_of who fid o) s.opens → names_reply s who fid' left room ≡ names_reply s who fid left room
names_as s who fid fid' [] room all = refl
names_as s who fid fid' (n ∷ ns) room all =
    ap (λ (opens : List Open). (names_told (n ∷ ns) room, record s { opens = opens }))
    (edited_as (is_open_of who fid') (is_open_of who fid) (λ o. record o { snapshot = Some (drop (in_reply room (n ∷ ns)) (n ∷ ns)) }) s.opens all)

list_as : (found : Option Open) (s : Share) (who : Who) (fid fid' : Fid) (restart : Bool) (room : ℕ)
    → AllByRecursion (λ o. is_open_of who fid' o ≡ is_open_of who fid o) s.opens
    → deed_of s who (req.List fid' restart room) found ≡ deed_of s who (req.List fid restart room) found
list_as None s who fid fid' restart room all = refl
list_as (Some o) s who fid fid' restart room all =
    ap (unless (refusal_of_list s o) s) (names_as s who fid fid' (left_of s o restart) room all)

-- where both file ids name the same opens
pub deed_carried : (f : Fid → Fid) (s : Share) (who : Who) (r : Req) (found : Option Open)
    → AllByRecursion (λ o. is_open_of who (f (fid_in r)) o ≡ is_open_of who (fid_in r) o) s.opens
    → deed_of s who (map_fid f r) found ≡ deed_of s who r found
deed_carried f s who (req.Create path access share disposition options attributes lease durable) found all = refl
deed_carried f s who (req.List fid restart room) found all = list_as found s who fid (f fid) restart room all
deed_carried f s who other found all = refl

-- the connection of a share
pub record Connection : Type 0 where
  pub connected : Bool
  pub sent : List Sent
  pub owed : List Owed
  pub held : List ℕ
  pub grants : List (Option Grant)

abbrev pub connection : Share → Connection
connection s = record { connected = s.connected; sent = s.sent; owed = s.owed; held = s.held; grants = s.grants }

-- an open, whatever is left of its listing
abbrev pub whole_listing : Open → Open
whole_listing o = record o { snapshot = None }

-- what such a request keeps: it gives no open and makes none, and leaves leases, connection and opens as they are, but for what is left
-- of a listing
pub record IsDeed (s : Share) (done : Rep × Share) : Type 0 where
  pub names : Names done.0
  pub number : opened_number done.0.body ≡ 0
  pub gives : is_none (open_given done.0.body) ≡ true
  pub leases : done.1.leases ≡ s.leases
  pub made : done.1.opens_made ≡ s.opens_made
  pub connection : connection done.1 ≡ connection s
  pub opens : map whole_listing done.1.opens ≡ map whole_listing s.opens

refused_deed : (status : ℕ) (s : Share) → IsDeed s (refused status s)
refused_deed status s =
    record { names = record {}; number = refl; gives = refl; leases = refl; made = refl; connection = refl; opens = refl }

unless_deed : (refusal : Option ℕ) (s : Share) (done : Rep × Share) → IsDeed s done → IsDeed s (unless refusal s done)
unless_deed None s done deed = deed
unless_deed (Some status) s done deed = refused_deed status s

on_deed : (found : Option Open) (s : Share) (done : Open → Rep × Share) → ((o : Open) → IsDeed s (done o)) → IsDeed s (on_open found s done)
on_deed None s done deed = refused_deed 0xC0000128 s
on_deed (Some o) s done deed = deed o

-- a status alone, and a share whose opens, leases and connection are those of the old one
abbrev plainly : (s : Share) (rep : Rep) (new : Share) → Names rep → opened_number rep.body ≡ 0 → is_none (open_given rep.body) ≡ true
    → new.leases ≡ s.leases → new.opens_made ≡ s.opens_made → connection new ≡ connection s → new.opens ≡ s.opens → IsDeed s (rep, new)
plainly s rep new names number gives leases made same opens = record {
  names = names;
  number = number;
  gives = gives;
  leases = leases;
  made = made;
  connection = same;
  opens = ap (map whole_listing) opens;
}

query_deed : (found : Option Open) (s : Share) → IsDeed s (query_open found s)
query_deed None s = refused_deed 0xC0000128 s
query_deed (Some o) s =
    record { names = record {}; number = refl; gives = refl; leases = refl; made = refl; connection = refl; opens = refl }

attributes_deed : (s : Share) (node attributes : ℕ) → IsDeed s (of_status 0, with_attributes node attributes s)
attributes_deed s node attributes = by (attributes == 0)
  where
    by : (t : Bool) → IsDeed s (of_status 0, if t then s else record s { nodes = map (with_read_only node (has attributes 1)) s.nodes })
    by true = refused_deed 0 s
    by false = plainly s (of_status 0) _ (record {}) refl refl refl refl refl refl

edited_listing : (is : Open → Bool) (left : Option (List ShareName)) (opens : List Open)
    → map whole_listing (edited is (λ o. record o { snapshot = left }) opens) ≡ map whole_listing opens
edited_listing is left [] = refl
edited_listing is left (o ∷ os) = by (is o) (edited_listing is left os)
  where
    by : (t : Bool) → map whole_listing (edited is (λ q. record q { snapshot = left }) os) ≡ map whole_listing os
        → map whole_listing (if t then record o { snapshot = left } ∷ os else o ∷ edited is (λ q. record q { snapshot = left }) os)
        ≡ whole_listing o ∷ map whole_listing os
    by true rest = refl
    by false rest = ap (λ (l : List Open). whole_listing o ∷ l) rest

names_deed : (s : Share) (who : Who) (fid : Fid) (left : List ShareName) (room : ℕ) → IsDeed s (names_reply s who fid left room)
names_deed s who fid [] room = refused_deed 0x80000006 s
names_deed s who fid (n ∷ ns) room = record {
  names = record {};
  number = refl;
  gives = refl;
  leases = refl;
  made = refl;
  connection = refl;
  opens = edited_listing (is_open_of who fid) (Some (drop (in_reply room (n ∷ ns)) (n ∷ ns))) s.opens;
}

pub deed_keeps : (s : Share) (who : Who) (r : Req) (found : Option Open) → IsDeed s (deed_of s who r found)
deed_keeps s who (req.Create path access share disposition options attributes lease durable) found = refused_deed 0xC00000BB s
deed_keeps s who (req.Close fid) found = refused_deed 0xC00000BB s
deed_keeps s who (req.Query fid) found = query_deed found s
deed_keeps s who (req.Flush fid) found = on_deed found s _ (λ o. unless_deed (refusal_of_flush o) s _ (refused_deed 0 s))
deed_keeps s who (req.Room fid) found = on_deed found s _ (λ o. plainly s (room_reply s) s (record {}) refl refl refl refl refl refl)
deed_keeps s who (req.Read fid offset length) found =
    on_deed found s _ (λ o. unless_deed (refusal_of_read s o offset length) s _ (plainly s (read_reply s o offset length) s (record {}) refl refl refl refl refl refl))
deed_keeps s who (req.Write fid offset bytes) found =
    on_deed found s _ (λ o. unless_deed (refusal_of_write s o offset (length bytes)) s _
    (plainly s (count_reply (length bytes)) (changed o.node (written offset bytes) s) (record {}) refl refl refl refl refl refl))
deed_keeps s who (req.Lock fid offset length exclusive) found =
    on_deed found s _ (λ o. unless_deed (refusal_of_lock s o offset length exclusive) s _
    (plainly s (of_status 0) (with_lock (record { holder = o.number; offset = offset; length = length; exclusive = exclusive }) s) (record {}) refl refl refl refl refl refl))
deed_keeps s who (req.Unlock fid offset length) found =
    on_deed found s _ (λ o. unless_deed (refusal_of_unlock s o offset length) s _
    (plainly s (of_status 0) (record s { locks = unlocked o.number offset length s.locks }) (record {}) refl refl refl refl refl refl))
deed_keeps s who (req.List fid restart room) found =
    on_deed found s _ (λ o. unless_deed (refusal_of_list s o) s _ (names_deed s who fid (left_of s o restart) room))
deed_keeps s who (req.SetBasic fid attributes) found =
    on_deed found s _ (λ o. unless_deed (refusal_of_basic o) s _ (attributes_deed s o.node attributes))
deed_keeps s who (req.SetEnd fid size) found =
    on_deed found s _ (λ o. unless_deed (refusal_of_end s o size) s _
    (plainly s (of_status 0) (changed o.node (resized size) s) (record {}) refl refl refl refl refl refl))
deed_keeps s who (req.SetPending fid on) found =
    on_deed found s _ (λ o. unless_deed (refusal_of_mark s o) s _
    (plainly s (of_status 0) (record s { entries = map (with_pending o.entry on) s.entries }) (record {}) refl refl refl refl refl refl))
deed_keeps s who (req.Rename fid replace path) found =
    on_deed found s _ (λ o. unless_deed (refusal_of_rename s o replace (components path)) s _
    (plainly s (of_status 0) (renamed s o.entry (directory_at s (place_of s (components path))) (last_name (components path)) (entry_at (place_of s (components path)))) (record {}) refl refl refl refl refl refl))
deed_keeps s who (req.LinkTo fid replace path) found =
    on_deed found s _ (λ o. unless_deed (refusal_of_link s o replace (components path)) s _
    (plainly s (of_status 0) (with_link s o.node (directory_at s (place_of s (components path))) (last_name (components path))) (record {}) refl refl refl refl refl refl))
deed_keeps s who (req.Ack key state) found = refused_deed 0xC00000BB s
deed_keeps s who (req.Reclaim fid key) found = refused_deed 0xC00000BB s

pub step_deed : (choice : Option Grant) (s : Share) (who : Who) (r : Req) → is_deed r ≡ true → IsDeed s (step_of choice s who r)
step_deed choice s who r deed = subst (IsDeed s) (sym (deed_is choice s who r deed)) (deed_keeps s who r (open_of s.opens who (fid_in r)))

-- what is done, without leases and a connection
abbrev pub bare_of : Rep × Share → Rep × Share
bare_of done = (done.0, bare done.1)

below_bare : (s : Share) (at : Place) (name : List ℕ) → below (bare s) at name ≡ below s at name
below_bare s NoPath name = refl
below_bare s (Missing d before) name = refl
below_bare s (There f) name = refl

walk_bare : (s : Share) (at : Place) (names : List (List ℕ)) → fold (below (bare s)) at names ≡ fold (below s) at names
walk_bare s at [] = refl
walk_bare s at (name ∷ names) =
    ap (λ (p : Place). fold (below (bare s)) p names) (below_bare s at name) ∙ walk_bare s (below s at name) names

-- a path leads to the same place
pub place_bare : (s : Share) (names : List (List ℕ)) → place_of (bare s) names ≡ place_of s names
place_bare s names = walk_bare s root names

pub unless_bare : (refusal : Option ℕ) (s : Share) (done : Rep × Share) → unless refusal (bare s) (bare_of done) ≡ bare_of (unless refusal s done)
unless_bare None s done = refl
unless_bare (Some status) s done = refl

on_bare : (found : Option Open) (s : Share) (done' done : Open → Rep × Share) → ((o : Open) → done' o ≡ bare_of (done o))
    → on_open found (bare s) done' ≡ bare_of (on_open found s done)
on_bare None s done' done same = refl
on_bare (Some o) s done' done same = same o

query_bare : (found : Option Open) (s : Share) → query_open found (bare s) ≡ bare_of (query_open found s)
query_bare None s = refl
query_bare (Some o) s = refl

attributes_bare : (s : Share) (node attributes : ℕ) → with_attributes node attributes (bare s) ≡ bare (with_attributes node attributes s)
attributes_bare s node attributes = by (attributes == 0)
  where
    by : (t : Bool) → (if t then bare s else record (bare s) { nodes = map (with_read_only node (has attributes 1)) s.nodes })
        ≡ bare (if t then s else record s { nodes = map (with_read_only node (has attributes 1)) s.nodes })
    by true = refl
    by false = refl

names_bare : (s : Share) (who : Who) (fid : Fid) (left : List ShareName) (room : ℕ)
    → names_reply (bare s) who fid left room ≡ bare_of (names_reply s who fid left room)
names_bare s who fid [] room = refl
names_bare s who fid (n ∷ ns) room = refl

-- a Rename and a LinkTo, given where the new path leads
abbrev path_refusal : List (List ℕ) → Place → Option ℕ
path_refusal names at = if not (list_all is_name names) then Some 0xC0000033 else refusal_of_place at

abbrev rename_refusal : Share → Open → Bool → List (List ℕ) → Place → Option ℕ
rename_refusal s o replace names at =
    or_else (refusal_of_renaming s o) (or_else (path_refusal names at) (or_else (refusal_of_directory s o (directory_at s at)) (refusal_of_target s o replace at)))

abbrev rename_by : Share → Open → Bool → List (List ℕ) → Place → Rep × Share
rename_by s o replace names at =
    unless (rename_refusal s o replace names at) s (of_status 0, renamed s o.entry (directory_at s at) (last_name names) (entry_at at))

rename_by_bare : (s : Share) (o : Open) (replace : Bool) (names : List (List ℕ)) (at : Place)
    → rename_by (bare s) o replace names at ≡ bare_of (rename_by s o replace names at)
rename_by_bare s o replace names NoPath =
    unless_bare (rename_refusal s o replace names NoPath) s (of_status 0, renamed s o.entry 0 (last_name names) 0)
rename_by_bare s o replace names (Missing d name) =
    unless_bare (rename_refusal s o replace names (Missing d name)) s (of_status 0, renamed s o.entry d (last_name names) 0)
rename_by_bare s o replace names (There f) =
    unless_bare (rename_refusal s o replace names (There f)) s (of_status 0, renamed s o.entry (directory_of s.entries f.entry) (last_name names) f.entry)

rename_bare : (s : Share) (o : Open) (replace : Bool) (names : List (List ℕ)) → rename_to (bare s) o replace names ≡ bare_of (rename_to s o replace names)
rename_bare s o replace names =
    ap (rename_by (bare s) o replace names) (place_bare s names) ∙ rename_by_bare s o replace names (place_of s names)

abbrev link_refusal : Share → Open → Bool → List (List ℕ) → Place → Option ℕ
link_refusal s o replace names at =
    if is_directory s.nodes o.node then Some 0xC00000BA else or_else (path_refusal names at) (refusal_of_link_at s replace at)

abbrev link_by : Share → Open → Bool → List (List ℕ) → Place → Rep × Share
link_by s o replace names at =
    unless (link_refusal s o replace names at) s (of_status 0, with_link s o.node (directory_at s at) (last_name names))

link_by_bare : (s : Share) (o : Open) (replace : Bool) (names : List (List ℕ)) (at : Place)
    → link_by (bare s) o replace names at ≡ bare_of (link_by s o replace names at)
link_by_bare s o replace names NoPath = unless_bare (link_refusal s o replace names NoPath) s (of_status 0, with_link s o.node 0 (last_name names))
link_by_bare s o replace names (Missing d name) =
    unless_bare (link_refusal s o replace names (Missing d name)) s (of_status 0, with_link s o.node d (last_name names))
link_by_bare s o replace names (There f) =
    unless_bare (link_refusal s o replace names (There f)) s (of_status 0, with_link s o.node (directory_of s.entries f.entry) (last_name names))

link_bare : (s : Share) (o : Open) (replace : Bool) (names : List (List ℕ)) → link_to (bare s) o replace names ≡ bare_of (link_to s o replace names)
link_bare s o replace names = ap (link_by (bare s) o replace names) (place_bare s names) ∙ link_by_bare s o replace names (place_of s names)

-- such a request does the same on the bare share
pub deed_bare : (s : Share) (who : Who) (r : Req) (found : Option Open) → deed_of (bare s) who r found ≡ bare_of (deed_of s who r found)
deed_bare s who (req.Create path access share disposition options attributes lease durable) found = refl
deed_bare s who (req.Close fid) found = refl
deed_bare s who (req.Query fid) found = query_bare found s
deed_bare s who (req.Flush fid) found =
    on_bare found s _ _ (λ o. unless_bare (refusal_of_flush o) s (of_status 0, s))
deed_bare s who (req.Room fid) found = on_bare found s _ (λ o. (room_reply s, s)) (λ o. refl)
deed_bare s who (req.Read fid offset length) found =
    on_bare found s _ _ (λ o. unless_bare (refusal_of_read s o offset length) s (read_reply s o offset length, s))
deed_bare s who (req.Write fid offset bytes) found =
    on_bare found s _ _ (λ o. unless_bare (refusal_of_write s o offset (length bytes)) s (count_reply (length bytes), changed o.node (written offset bytes) s))
deed_bare s who (req.Lock fid offset length exclusive) found =
    on_bare found s _ _ (λ o. unless_bare (refusal_of_lock s o offset length exclusive) s
    (of_status 0, with_lock (record { holder = o.number; offset = offset; length = length; exclusive = exclusive }) s))
deed_bare s who (req.Unlock fid offset length) found =
    on_bare found s _ _ (λ o. unless_bare (refusal_of_unlock s o offset length) s (of_status 0, record s { locks = unlocked o.number offset length s.locks }))
deed_bare s who (req.List fid restart room) found =
    on_bare found s _ _ (λ o. ap (unless (refusal_of_list s o) (bare s)) (names_bare s who fid (left_of s o restart) room)
    ∙ unless_bare (refusal_of_list s o) s (names_reply s who fid (left_of s o restart) room))
deed_bare s who (req.SetBasic fid attributes) found =
    on_bare found s _ _ (λ o. ap (λ (t : Share). unless (refusal_of_basic o) (bare s) (of_status 0, t)) (attributes_bare s o.node attributes)
    ∙ unless_bare (refusal_of_basic o) s (of_status 0, with_attributes o.node attributes s))
deed_bare s who (req.SetEnd fid size) found =
    on_bare found s _ _ (λ o. unless_bare (refusal_of_end s o size) s (of_status 0, changed o.node (resized size) s))
deed_bare s who (req.SetPending fid on) found =
    on_bare found s _ _ (λ o. unless_bare (refusal_of_mark s o) s (of_status 0, record s { entries = map (with_pending o.entry on) s.entries }))
deed_bare s who (req.Rename fid replace path) found =
    on_bare found s _ (λ o. rename_to s o replace (components path)) (λ o. rename_bare s o replace (components path))
deed_bare s who (req.LinkTo fid replace path) found =
    on_bare found s _ (λ o. link_to s o replace (components path)) (λ o. link_bare s o replace (components path))
deed_bare s who (req.Ack key state) found = refl
deed_bare s who (req.Reclaim fid key) found = refl

-- opens that are the same but for their listings
pub every_listing : (P : Open → Type 0) → ((o : Open) → P o → P (whole_listing o)) → ((o : Open) → P (whole_listing o) → P o)
    → (new old : List Open) → map whole_listing new ≡ map whole_listing old → AllByRecursion P old → AllByRecursion P new
every_listing P to from new old same all =
    back new (subst (AllByRecursion P) (sym same) (forth old all))
  where
    forth : (os : List Open) → AllByRecursion P os → AllByRecursion P (map whole_listing os)
    forth [] all = tt
    forth (o ∷ os) all = (to o all.0, forth os all.1)

    back : (os : List Open) → AllByRecursion P (map whole_listing os) → AllByRecursion P os
    back [] all = tt
    back (o ∷ os) all = (from o all.0, back os all.1)

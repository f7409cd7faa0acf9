-- Two shares that differ in their connection alone do the same, and a share without leases waits for no break and grants nothing.
use Rattle.std.proofs.Common.{◌≡◌, ◌∙◌, ℕ, true, false, List, [], ◌∷◌, refl, sym, ap, Option, Some, None, Bool, not, if◌then◌else◌}
use Rattle.std.specs.Prelude.{map, filter, is_none}
use Rattle.std.specs.List.{list_all}
use Rattle.std.proofs.lemmas.Bool.{false≢true}
use Rattle.smb_base.specs.declared.names.Key.{Key}
use Rattle.share_state.specs.declared.connection.Grant.{Grant}
use Rattle.share_state.specs.declared.lease.Lease.{Lease}
use Rattle.share_state.specs.declared.opens.Open.{Open}
use Rattle.share_state.specs.declared.wanted.Wanted.{Wanted}
use Rattle.share_state.specs.declared.place.Place.{Place}
use Rattle.share_state.specs.declared.place.Place.TheVariants.{NoPath, Missing, There}
use Rattle.share_state.specs.declared.request.Who.{Who}
use Rattle.share_state.specs.declared.request.Rep.{Rep}
use Rattle.share_state.specs.declared.request.RepBody.{RepBody}
use Rattle.share_state.specs.declared.request.RepBody.TheVariants as body
use Rattle.share_state.specs.declared.request.Req.{Req}
use Rattle.share_state.specs.declared.request.Req.TheVariants as req
use Rattle.share_state.specs.declared.share.Share.{Share}
use Rattle.share_state.specs.Names.{is_name, components}
use Rattle.share_state.specs.Place.{place_of}
use Rattle.share_state.specs.Reply.{unless, refused}
use Rattle.share_state.specs.Create.{is_disposition, create_at, create_of, made, opened, refusal_of_missing, refusal_of_there}
use Rattle.share_state.specs.Close.{open_of, close_open, closed, kept_leases}
use Rattle.share_state.specs.Step.{step_of}
use Rattle.share_state.specs.Built.{is_built}
use Rattle.share_state.specs.Leases.{no_granting}
use Rattle.share_state.specs.PlainShare.{plain_wanted, plain_request}
use Rattle.share_state.specs.Breaks.{is_own, gone_from, gone_on, gone_with, gone_with_both, is_of_open, is_refused_early, needs_in, needs_at, needs_by, needs_of, replaced_by}
use Rattle.share_state.specs.Grants.{is_allowed}
use Rattle.share_state.specs.Cut.{all_closed, ends_with, disconnected, after_cut}
use Rattle.fs_plain.specs.World.{grant_in}
use Rattle.fs_plain.specs.Alike.{bare}
use Rattle.fs_plain.specs.Paired.{open_given}
use Rattle.fs_plain.proofs.Deeds.{bare_of, step_deed}
use Rattle.fs_plain.proofs.PlainTree.{step_bare}
use Rattle.share_box.specs.Truth.{IsBare}

-- a request does the same, whatever was chosen
pub step_same : (choice : Option Grant) (told own : Share) (who : Who) (r : Req) → bare told ≡ bare own → is_built r ≡ true
    → bare_of (step_of choice told who r) ≡ bare_of (step_of None own who r)
step_same choice told own who r tree built =
    sym (step_bare choice None told who r built)
    ∙ ap (λ (t : Share). step_of None t who (plain_request r)) tree
    ∙ step_bare None None own who r built

-- no break stands against a request where there is no lease
no_needs_in : (early : Bool) (needs : List (Key × ℕ)) → needs ≡ [] → (if early then [] else needs) ≡ []
no_needs_in true needs none = refl
no_needs_in false needs none = none

no_needs_at : (s : Share) (who : Who) (w : Wanted) (at : Place) → s.leases ≡ [] → needs_at s who w at ≡ []
no_needs_at s who w NoPath none = refl
no_needs_at s who w (Missing d name) none = refl
no_needs_at s who w (There f) none = no_needs_in (is_refused_early s who w f) (needs_in (is_own who w.lease) (gone_from s w f.node) s.leases)
    (ap (needs_in (is_own who w.lease) (gone_from s w f.node)) none)

no_needs_if : (named : Bool) (needs : List (Key × ℕ)) → needs ≡ [] → (if named then needs else []) ≡ []
no_needs_if true needs none = none
no_needs_if false needs none = refl

no_needs_by : (s : Share) (found : Option Open) (gone : Open → Lease → ℕ) → s.leases ≡ [] → needs_by s found gone ≡ []
no_needs_by s None gone none = refl
no_needs_by s (Some o) gone none = ap (needs_in (is_of_open o) (gone o)) none

pub no_needs : (s : Share) (who : Who) (r : Req) → s.leases ≡ [] → needs_of s who r ≡ []
no_needs s who (req.Create path access share disposition options attributes lease durable) none =
    no_needs_if _ _ (no_needs_at s who (record { access = access; share = share; disposition = disposition; options = options; attributes = attributes; lease = lease; durable = durable }) (place_of s (components path)) none)
no_needs s who (req.Read fid offset length) none = no_needs_by s (open_of s.opens who fid) (λ o. gone_on o.node 4) none
no_needs s who (req.Write fid offset bytes) none = no_needs_by s (open_of s.opens who fid) (λ o. gone_on o.node 5) none
no_needs s who (req.SetEnd fid size) none = no_needs_by s (open_of s.opens who fid) (λ o. gone_on o.node 5) none
no_needs s who (req.Lock fid offset length exclusive) none = no_needs_by s (open_of s.opens who fid) (λ o. gone_on o.node 5) none
no_needs s who (req.SetPending fid on) none =
    no_needs_if on (needs_by s (open_of s.opens who fid) (λ o. gone_with s o.node)) (no_needs_by s (open_of s.opens who fid) (λ o. gone_with s o.node) none)
no_needs s who (req.Rename fid replace path) none =
    no_needs_by s (open_of s.opens who fid) (λ o. gone_with_both s o.node (replaced_by s replace o.entry (components path))) none
no_needs s who other none = refl

-- what is bare is allowed where nothing is wanted
pub bare_allowed : (choice : Option Grant) (s : Share) (who : Who) (r : Req) → is_built r ≡ true → IsBare choice → is_allowed choice s who r ≡ true
bare_allowed None s who r built is = refl
bare_allowed (Some grant) s who (req.Create path access share disposition options attributes (Some wish) durable) built is = absurd (false≢true built)
bare_allowed (Some grant) s who (req.Create path access share disposition options attributes None durable) built is = is
bare_allowed (Some grant) s who other built is = is

-- a reply grants nothing
unless_grants : (refusal : Option ℕ) (s : Share) (done : Rep × Share) → IsBare (grant_in done.0.body) → IsBare (grant_in (unless refusal s done).0.body)
unless_grants None s done is = is
unless_grants (Some status) s done is = refl

create_at_grants : (choice : Option Grant) (s : Share) (who : Who) (w : Wanted) (at : Place)
    → IsBare (grant_in (create_at choice s who (plain_wanted w) at).0.body)
create_at_grants choice s who w NoPath = refl
create_at_grants choice s who w (Missing d name) =
    unless_grants (refusal_of_missing s who (plain_wanted w) d) s (made s who (plain_wanted w) no_granting d name) refl
create_at_grants choice s who w (There f) =
    unless_grants (refusal_of_there s who (plain_wanted w) f) s (opened s who (plain_wanted w) no_granting f) refl

create_grants : (choice : Option Grant) (s : Share) (who : Who) (path : List ℕ) (w : Wanted)
    → IsBare (grant_in (create_of choice s who path (plain_wanted w)).0.body)
create_grants choice s who path w = by (is_disposition w.disposition) (list_all is_name (components path))
  where
    by : (t u : Bool) → IsBare (grant_in (if not t then refused 0xC000000D s else if not u then refused 0xC0000033 s else create_at choice s who (plain_wanted w) (place_of s (components path))).0.body)
    by false u = refl
    by true false = refl
    by true true = create_at_grants choice s who w (place_of s (components path))

close_grants : (o : Option Open) (s : Share) → IsBare (grant_in (close_open o s).0.body)
close_grants None s = refl
close_grants (Some o) s = refl

not_opened : (b : RepBody) → is_none (open_given b) ≡ true → IsBare (grant_in b)
not_opened (body.Opened fid action size attributes lease durable) none = absurd (false≢true none)
not_opened other none = refl

pub step_grants : (choice : Option Grant) (s : Share) (who : Who) (r : Req) → is_built r ≡ true → IsBare (grant_in (step_of choice s who r).0.body)
step_grants choice s who (req.Create path access share disposition options attributes (Some wish) durable) built = absurd (false≢true built)
step_grants choice s who (req.Create path access share disposition options attributes None true) built = absurd (false≢true built)
step_grants choice s who (req.Create path access share disposition options attributes None false) built =
    create_grants choice s who path (record { access = access; share = share; disposition = disposition; options = options; attributes = attributes; lease = None; durable = false })
step_grants choice s who (req.Close fid) built = close_grants (open_of s.opens who fid) s
step_grants choice s who other built = not_opened (step_of choice s who other).0.body (step_deed choice s who other refl).gives

-- opens end the same beside any connection
all_closed_bare : (opens : List Open) (s : Share) → bare (all_closed opens s) ≡ all_closed opens (bare s)
all_closed_bare [] s = refl
all_closed_bare (o ∷ os) s = all_closed_bare os (closed o s)

-- what a lost connection leaves of the lists of a share without leases
left_by : Share → Share
left_by s =
    let left : Share = all_closed (filter (ends_with (record { 0 = 0 }) []) s.opens) s in
    record left { opens = map (disconnected (record { 0 = 0 })) left.opens }

cut_bare : (s : Share) → s.leases ≡ [] → bare (after_cut s) ≡ left_by (bare s)
unfolding left_by
cut_bare s none =
    ap (λ (leases : List Lease). bare (record (all_closed (filter (ends_with (record { 0 = 0 }) leases) s.opens) s) { opens = map (disconnected (record { 0 = 0 })) (all_closed (filter (ends_with (record { 0 = 0 }) leases) s.opens) s).opens })) none
    ∙ ap (λ (left : Share). record left { opens = map (disconnected (record { 0 = 0 })) left.opens })
    (all_closed_bare (filter (ends_with (record { 0 = 0 }) []) s.opens) s)

pub cut_same : (told own : Share) → bare told ≡ bare own → told.leases ≡ [] → own.leases ≡ [] → bare (after_cut told) ≡ bare (after_cut own)
cut_same told own tree none none' = cut_bare told none ∙ ap left_by tree ∙ sym (cut_bare own none')

kept_none : (opens : List Open) (leases : List Lease) → leases ≡ [] → kept_leases opens leases ≡ []
kept_none opens leases none = ap (kept_leases opens) none

all_closed_leases : (opens : List Open) (s : Share) → s.leases ≡ [] → (all_closed opens s).leases ≡ []
all_closed_leases [] s none = none
all_closed_leases (o ∷ os) s none = all_closed_leases os (closed o s) (kept_none (closed o s).opens s.leases none)

-- no lease comes of it
pub cut_leases : (s : Share) → s.leases ≡ [] → (after_cut s).leases ≡ []
cut_leases s none = all_closed_leases (filter (ends_with (record { 0 = 0 }) s.leases) s.opens) s none

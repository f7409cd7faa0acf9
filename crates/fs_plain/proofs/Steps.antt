-- What a request does to the numbers of opens.
use Rattle.std.proofs.Common.{rules, ◌≡◌, ℕ, true, false, [], ◌∷◌, ◌++◌, ◌+◌, ◌≤◌, refl, ap, sym, subst, ◌∙◌, inl, inr, None, Some, List, Option, Bool, ◌==◌, not, if◌then◌else◌}
use Rattle.std.specs.Prelude.{map, filter, ◌⊎◌}
use Rattle.std.specs.List.{AllByRecursion, list_all}
use Rattle.std.proofs.lemmas.Bool.{false≢true}
use Rattle.share_state.specs.declared.connection.Grant.{Grant}
use Rattle.share_state.specs.declared.granting.Granting.{Granting}
use Rattle.share_state.specs.declared.opens.Open.{Open}
use Rattle.share_state.specs.declared.wanted.Wanted.{Wanted}
use Rattle.share_state.specs.declared.place.Found.{Found}
use Rattle.share_state.specs.declared.place.Place.{Place}
use Rattle.share_state.specs.declared.place.Place.TheVariants.{NoPath, Missing, There}
use Rattle.share_state.specs.declared.request.Who.{Who}
use Rattle.share_state.specs.declared.request.Req.{Req}
use Rattle.share_state.specs.declared.request.Req.TheVariants as req
use Rattle.share_state.specs.declared.request.Rep.{Rep}
use Rattle.share_state.specs.declared.share.Share.{Share}
use Rattle.share_state.specs.Names.{components, is_name}
use Rattle.share_state.specs.State.{emptied}
use Rattle.share_state.specs.Reply.{unless, refused}
use Rattle.share_state.specs.Place.{place_of}
use Rattle.share_state.specs.Leases.{no_granting, granting_of, with_granting}
use Rattle.share_state.specs.Built.{is_built}
use Rattle.share_state.specs.PlainShare.{plain_wanted}
use Rattle.share_state.specs.Create.{create_at, create_of, made, opened, open_with, with_open, overwrites, refusal_of_missing, refusal_of_there, is_disposition}
use Rattle.share_state.specs.declared.lease.Lease.{Lease}
use Rattle.share_state.specs.Close.{open_of, close_open, closed, kept_leases}
use Rattle.share_state.specs.Step.{step_of}
use Rattle.fs_plain.specs.Paired.{opened_number, Names}
use Rattle.fs_plain.specs.Alike.{IsStanding, IsAnother, AreApart, AreStanding}
use Rattle.fs_plain.proofs.Every.{every-snoc, every-filter, every-more}
use Rattle.fs_plain.proofs.Deeds.{connection, whole_listing, IsDeed, step_deed, every_listing}

-- what was done gave no open and made none, or gave the one that it made, which has the next number
abbrev pub Counts : Share → Rep × Share → Type 0
Counts s done =
    ((opened_number done.0.body ≡ 0) × (done.1.opens_made ≡ s.opens_made))
    ⊎ ((opened_number done.0.body ≡ s.opens_made + 1) × (done.1.opens_made ≡ s.opens_made + 1))

unless_counts : (refusal : Option ℕ) (s : Share) (done : Rep × Share) → Counts s done → Counts s (unless refusal s done)
unless_counts None s done counts = counts
unless_counts (Some status) s done counts = inl (refl, refl)

opened_counts : (s : Share) (who : Who) (w : Wanted) (g : Granting) (f : Found) → Counts s (opened s who w g f)
opened_counts s who w g f = inr (refl, by (overwrites w.disposition))
  where
    by : (t : Bool) → (if t then record s { nodes = map (emptied f.node) s.nodes } else s).opens_made + 1 ≡ s.opens_made + 1
    by true = refl
    by false = refl

create_at_counts : (choice : Option Grant) (s : Share) (who : Who) (w : Wanted) (at : Place) → Counts s (create_at choice s who w at)
create_at_counts choice s who w NoPath = inl (refl, refl)
create_at_counts choice s who w (Missing d name) =
    unless_counts (refusal_of_missing s who w d) s (made s who w (granting_of choice s who w (s.nodes_made + 1)) d name) (inr (refl, refl))
create_at_counts choice s who w (There f) =
    let g : Granting = granting_of choice s who w f.node in
    unless_counts (refusal_of_there s who w f) s (opened s who w g f) (opened_counts s who w g f)

create_counts : (choice : Option Grant) (s : Share) (who : Who) (path : List ℕ) (w : Wanted) → Counts s (create_of choice s who path w)
create_counts choice s who path w = by (is_disposition w.disposition) (list_all is_name (components path))
  where
    by : (t u : Bool) → Counts s (if not t then refused 0xC000000D s else if not u then refused 0xC0000033 s else create_at choice s who w (place_of s (components path)))
    by false u = inl (refl, refl)
    by true false = inl (refl, refl)
    by true true = create_at_counts choice s who w (place_of s (components path))

close_counts : (o : Option Open) (s : Share) → Counts s (close_open o s)
close_counts None s = inl (refl, refl)
close_counts (Some o) s = inl (refl, refl)

pub step_counts : (choice : Option Grant) (s : Share) (who : Who) (r : Req) → Counts s (step_of choice s who r)
step_counts choice s who (req.Create path access share disposition options attributes lease durable) = create_counts choice s who path record {
  access = access;
  share = share;
  disposition = disposition;
  options = options;
  attributes = attributes;
  lease = lease;
  durable = durable;
}
step_counts choice s who (req.Close fid) = close_counts (open_of s.opens who fid) s
step_counts choice s who other = let deed : IsDeed s (step_of choice s who other) = step_deed choice s who other refl in inl (deed.number, deed.made)

-- it leaves the connection alone
abbrev pub LeavesConnection : Share → Rep × Share → Type 0
LeavesConnection s done = connection done.1 ≡ connection s

unless_connection : (refusal : Option ℕ) (s : Share) (done : Rep × Share) → LeavesConnection s done → LeavesConnection s (unless refusal s done)
unless_connection None s done holds = holds
unless_connection (Some status) s done holds = refl

opened_connection : (s : Share) (who : Who) (w : Wanted) (g : Granting) (f : Found) → LeavesConnection s (opened s who w g f)
opened_connection s who w g f = by (overwrites w.disposition)
  where
    by : (t : Bool)
        → connection (with_granting who g f.node (with_open (open_with (s.opens_made + 1) who w g f.node f.entry) (if t then record s { nodes = map (emptied f.node) s.nodes } else s)))
        ≡ connection s
    by true = refl
    by false = refl

create_at_connection : (choice : Option Grant) (s : Share) (who : Who) (w : Wanted) (at : Place) → LeavesConnection s (create_at choice s who w at)
create_at_connection choice s who w NoPath = refl
create_at_connection choice s who w (Missing d name) =
    unless_connection (refusal_of_missing s who w d) s (made s who w (granting_of choice s who w (s.nodes_made + 1)) d name) refl
create_at_connection choice s who w (There f) =
    let g : Granting = granting_of choice s who w f.node in
    unless_connection (refusal_of_there s who w f) s (opened s who w g f) (opened_connection s who w g f)

create_connection : (choice : Option Grant) (s : Share) (who : Who) (path : List ℕ) (w : Wanted) → LeavesConnection s (create_of choice s who path w)
create_connection choice s who path w = by (is_disposition w.disposition) (list_all is_name (components path))
  where
    by : (t u : Bool) → LeavesConnection s (if not t then refused 0xC000000D s else if not u then refused 0xC0000033 s else create_at choice s who w (place_of s (components path)))
    by false u = refl
    by true false = refl
    by true true = create_at_connection choice s who w (place_of s (components path))

close_connection : (o : Option Open) (s : Share) → LeavesConnection s (close_open o s)
close_connection None s = refl
close_connection (Some o) s = refl

pub step_connection : (choice : Option Grant) (s : Share) (who : Who) (r : Req) → LeavesConnection s (step_of choice s who r)
step_connection choice s who (req.Create path access share disposition options attributes lease durable) = create_connection choice s who path record {
  access = access;
  share = share;
  disposition = disposition;
  options = options;
  attributes = attributes;
  lease = lease;
  durable = durable;
}
step_connection choice s who (req.Close fid) = close_connection (open_of s.opens who fid) s
step_connection choice s who other = (step_deed choice s who other refl).connection

-- a share without leases stays one, where none is wanted
abbrev pub GrantsNoLease : Share → Rep × Share → Type 0
GrantsNoLease s done = s.leases ≡ [] → done.1.leases ≡ []

kept_none : (opens : List Open) (leases : List Lease) → leases ≡ [] → kept_leases opens leases ≡ []
kept_none opens leases none = rw none refl

unless_no_lease : (refusal : Option ℕ) (s : Share) (done : Rep × Share) → GrantsNoLease s done → GrantsNoLease s (unless refusal s done)
unless_no_lease None s done holds = holds
unless_no_lease (Some status) s done holds = λ none. none

opened_no_lease : (s : Share) (who : Who) (w : Wanted) (f : Found) → GrantsNoLease s (opened s who w no_granting f)
opened_no_lease s who w f = by (overwrites w.disposition)
  where
    by : (t : Bool) → s.leases ≡ [] → (if t then record s { nodes = map (emptied f.node) s.nodes } else s).leases ≡ []
    by true none = none
    by false none = none

create_at_no_lease : (choice : Option Grant) (s : Share) (who : Who) (w : Wanted) (at : Place) → GrantsNoLease s (create_at choice s who (plain_wanted w) at)
create_at_no_lease choice s who w NoPath = λ none. none
create_at_no_lease choice s who w (Missing d name) =
    unless_no_lease (refusal_of_missing s who (plain_wanted w) d) s (made s who (plain_wanted w) no_granting d name) (λ none. none)
create_at_no_lease choice s who w (There f) =
    unless_no_lease (refusal_of_there s who (plain_wanted w) f) s (opened s who (plain_wanted w) no_granting f) (opened_no_lease s who (plain_wanted w) f)

create_no_lease : (choice : Option Grant) (s : Share) (who : Who) (path : List ℕ) (w : Wanted) → GrantsNoLease s (create_of choice s who path (plain_wanted w))
create_no_lease choice s who path w = by (is_disposition w.disposition) (list_all is_name (components path))
  where
    by : (t u : Bool) → GrantsNoLease s (if not t then refused 0xC000000D s else if not u then refused 0xC0000033 s else create_at choice s who (plain_wanted w) (place_of s (components path)))
    by false u = λ none. none
    by true false = λ none. none
    by true true = create_at_no_lease choice s who w (place_of s (components path))

close_no_lease : (o : Option Open) (s : Share) → GrantsNoLease s (close_open o s)
close_no_lease None s = λ none. none
close_no_lease (Some o) s = kept_none (closed o s).opens s.leases

pub step_leases : (choice : Option Grant) (s : Share) (who : Who) (r : Req) → is_built r ≡ true → GrantsNoLease s (step_of choice s who r)
step_leases choice s who (req.Create path access share disposition options attributes (Some wish) durable) built = absurd (false≢true built)
step_leases choice s who (req.Create path access share disposition options attributes None true) built = absurd (false≢true built)
step_leases choice s who (req.Create path access share disposition options attributes None false) built = create_no_lease choice s who path record {
  access = access;
  share = share;
  disposition = disposition;
  options = options;
  attributes = attributes;
  lease = None;
  durable = false;
}
step_leases choice s who (req.Close fid) built = close_no_lease (open_of s.opens who fid) s
step_leases choice s who other built = λ none. (step_deed choice s who other refl).leases ∙ none

abbrev pub KeepsNumbers : Share → Rep × Share → Type 0
KeepsNumbers s done = AreStanding s → AreStanding done.1

next_too : (n m : ℕ) → n ≤ m → n ≤ m + 1
next_too n m below = search rules

still_numbered : (m : ℕ) (opens : List Open) → AllByRecursion (IsStanding m) opens → AllByRecursion (IsStanding (m + 1)) opens
still_numbered m opens all = every-more (IsStanding m) (IsStanding (m + 1)) (λ o is. (is.0, next_too o.number m is.1, is.2, is.3)) opens all

-- a number that no open has
new_apart : (m : ℕ) (o : Open) → o.number ≡ m + 1 → (opens : List Open) → AllByRecursion (IsStanding m) opens
    → AllByRecursion (λ q. (o.number == q.number) ≡ false) opens
new_apart m o is opens all = every-more (IsStanding m) (λ q. (o.number == q.number) ≡ false) (λ q low. above o.number q.number m is low.1) opens all
  where
    above : (n k m : ℕ) → n ≡ m + 1 → k ≤ m → (n == k) ≡ false
    above n k m is low = search rules

apart_more : (o : Open) (opens : List Open) → AllByRecursion (λ q. (o.number == q.number) ≡ false) opens → AreApart opens → AreApart (opens ++ o ∷ [])
apart_more o [] new apart = (tt, record {})
apart_more o (q ∷ qs) new apart = (every-snoc (IsAnother q) qs o apart.0 new.0, apart_more o qs new.1 apart.1)

apart_kept : (p : Open → Bool) (o : Open) (opens : List Open) (t : Bool) → AllByRecursion (IsAnother o) opens → AreApart (filter p opens)
    → AreApart (if t then o ∷ filter p opens else filter p opens)
apart_kept p o opens true others apart = (every-filter (IsAnother o) p opens others, apart)
apart_kept p o opens false others apart = apart

pub apart_filter : (p : Open → Bool) (opens : List Open) → AreApart opens → AreApart (filter p opens)
apart_filter p [] apart = record {}
apart_filter p (o ∷ os) apart = apart_kept p o os (p o) apart.0 (apart_filter p os apart.1)

one_more_numbered : (m : ℕ) (opens : List Open) (o : Open) → o.number ≡ m + 1 → o.connected ≡ true → o.durable ≡ false
    → AllByRecursion (IsStanding m) opens × AreApart opens → AllByRecursion (IsStanding (m + 1)) (opens ++ o ∷ []) × AreApart (opens ++ o ∷ [])
one_more_numbered m opens o is stands passing all = (
  every-snoc (IsStanding (m + 1)) opens o (still_numbered m opens all.0) (rw is (search rules), rw is (search rules), stands, passing),
  apart_more o opens (new_apart m o is opens all.0) all.1,
)

unless_numbers : (refusal : Option ℕ) (s : Share) (done : Rep × Share) → KeepsNumbers s done → KeepsNumbers s (unless refusal s done)
unless_numbers None s done holds = holds
unless_numbers (Some status) s done holds = (λ all. all)

opened_numbers : (s : Share) (who : Who) (w : Wanted) (f : Found) → KeepsNumbers s (opened s who w no_granting f)
opened_numbers s who w f = by (overwrites w.disposition)
  where
    by : (t : Bool) → AreStanding s → AreStanding (with_open (open_with (s.opens_made + 1) who w no_granting f.node f.entry) (if t then record s { nodes = map (emptied f.node) s.nodes } else s))
    by true all = one_more_numbered s.opens_made s.opens (open_with (s.opens_made + 1) who w no_granting f.node f.entry) refl refl refl all
    by false all = one_more_numbered s.opens_made s.opens (open_with (s.opens_made + 1) who w no_granting f.node f.entry) refl refl refl all

create_at_numbers : (choice : Option Grant) (s : Share) (who : Who) (w : Wanted) (at : Place) → KeepsNumbers s (create_at choice s who (plain_wanted w) at)
create_at_numbers choice s who w NoPath = (λ all. all)
create_at_numbers choice s who w (Missing d name) =
    unless_numbers (refusal_of_missing s who (plain_wanted w) d) s (made s who (plain_wanted w) no_granting d name) (λ all. one_more_numbered s.opens_made s.opens (open_with (s.opens_made + 1) who w no_granting (s.nodes_made + 1) (s.entries_made + 1)) refl refl refl all)
create_at_numbers choice s who w (There f) =
    unless_numbers (refusal_of_there s who (plain_wanted w) f) s (opened s who (plain_wanted w) no_granting f) (opened_numbers s who (plain_wanted w) f)

create_numbers : (choice : Option Grant) (s : Share) (who : Who) (path : List ℕ) (w : Wanted) → KeepsNumbers s (create_of choice s who path (plain_wanted w))
create_numbers choice s who path w = by (is_disposition w.disposition) (list_all is_name (components path))
  where
    by : (t u : Bool) → KeepsNumbers s (if not t then refused 0xC000000D s else if not u then refused 0xC0000033 s else create_at choice s who (plain_wanted w) (place_of s (components path)))
    by false u = (λ all. all)
    by true false = (λ all. all)
    by true true = create_at_numbers choice s who w (place_of s (components path))

close_numbers : (o : Option Open) (s : Share) → KeepsNumbers s (close_open o s)
close_numbers None s = (λ all. all)
close_numbers (Some o) s = (λ all. (
  every-filter (IsStanding s.opens_made) (λ q. not (q.number == o.number)) s.opens all.0,
  apart_filter (λ q. not (q.number == o.number)) s.opens all.1,
))

deed_numbers : (s : Share) (done : Rep × Share) → IsDeed s done → KeepsNumbers s done
deed_numbers s done deed all = (
  every_listing (IsStanding done.1.opens_made) (λ o is. is) (λ o is. is) done.1.opens s.opens deed.opens
      (subst (λ (n : ℕ). AllByRecursion (IsStanding n) s.opens) (sym deed.made) all.0),
  apart_back done.1.opens (subst AreApart (sym deed.opens) (apart_forth s.opens all.1)),
)
  where
    forth : (o : Open) (qs : List Open) → AllByRecursion (IsAnother o) qs → AllByRecursion (IsAnother (whole_listing o)) (map whole_listing qs)
    forth o [] all = tt
    forth o (q ∷ qs) all = (all.0, forth o qs all.1)

    back : (o : Open) (qs : List Open) → AllByRecursion (IsAnother (whole_listing o)) (map whole_listing qs) → AllByRecursion (IsAnother o) qs
    back o [] all = tt
    back o (q ∷ qs) all = (all.0, back o qs all.1)

    apart_forth : (os : List Open) → AreApart os → AreApart (map whole_listing os)
    apart_forth [] apart = record {}
    apart_forth (o ∷ os) apart = (forth o os apart.0, apart_forth os apart.1)

    apart_back : (os : List Open) → AreApart (map whole_listing os) → AreApart os
    apart_back [] apart = record {}
    apart_back (o ∷ os) apart = (back o os apart.0, apart_back os apart.1)

pub step_numbers : (choice : Option Grant) (s : Share) (who : Who) (r : Req) → is_built r ≡ true → KeepsNumbers s (step_of choice s who r)
step_numbers choice s who (req.Create path access share disposition options attributes (Some wish) durable) built = absurd (false≢true built)
step_numbers choice s who (req.Create path access share disposition options attributes None true) built = absurd (false≢true built)
step_numbers choice s who (req.Create path access share disposition options attributes None false) built = create_numbers choice s who path record {
  access = access;
  share = share;
  disposition = disposition;
  options = options;
  attributes = attributes;
  lease = None;
  durable = false;
}
step_numbers choice s who (req.Close fid) built = close_numbers (open_of s.opens who fid) s
step_numbers choice s who other built = deed_numbers s (step_of choice s who other) (step_deed choice s who other refl)

-- a request's reply names its open by the number in both halves
pub no_zero : (n : ℕ) → (n + 1 == 0) ≡ false
no_zero n = search rules

unless_names : (refusal : Option ℕ) (s : Share) (done : Rep × Share) → Names done.0 → Names (unless refusal s done).0
unless_names None s done names = names
unless_names (Some status) s done names = record {}

create_at_names : (choice : Option Grant) (s : Share) (who : Who) (w : Wanted) (at : Place) → Names (create_at choice s who w at).0
create_at_names choice s who w NoPath = record {}
create_at_names choice s who w (Missing d name) =
    unless_names (refusal_of_missing s who w d) s (made s who w (granting_of choice s who w (s.nodes_made + 1)) d name) (refl, no_zero s.opens_made)
create_at_names choice s who w (There f) =
    unless_names (refusal_of_there s who w f) s (opened s who w (granting_of choice s who w f.node) f) (refl, no_zero s.opens_made)

create_names : (choice : Option Grant) (s : Share) (who : Who) (path : List ℕ) (w : Wanted) → Names (create_of choice s who path w).0
create_names choice s who path w = by (is_disposition w.disposition) (list_all is_name (components path))
  where
    by : (t u : Bool) → Names (if not t then refused 0xC000000D s else if not u then refused 0xC0000033 s else create_at choice s who w (place_of s (components path))).0
    by false u = record {}
    by true false = record {}
    by true true = create_at_names choice s who w (place_of s (components path))

close_names : (o : Option Open) (s : Share) → Names (close_open o s).0
close_names None s = record {}
close_names (Some o) s = record {}

pub step_names : (choice : Option Grant) (s : Share) (who : Who) (r : Req) → Names (step_of choice s who r).0
step_names choice s who (req.Create path access share disposition options attributes lease durable) = create_names choice s who path record {
  access = access;
  share = share;
  disposition = disposition;
  options = options;
  attributes = attributes;
  lease = lease;
  durable = durable;
}
step_names choice s who (req.Close fid) = close_names (open_of s.opens who fid) s
step_names choice s who other = (step_deed choice s who other refl).names

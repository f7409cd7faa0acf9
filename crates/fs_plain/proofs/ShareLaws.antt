-- What a request of the share gives, and what it leaves of the leases.
use Rattle.std.proofs.Common.{◌≡◌, ℕ, true, false, refl, ap, sym, ◌∙◌, inl, inr, None, Some, List, Option, Bool, ◌==◌, not, ◌&&◌, if◌then◌else◌}
use Rattle.std.specs.Prelude.{map, is_some, is_none}
use Rattle.std.specs.List.{list_all}
use Rattle.std.proofs.lemmas.Bool.{false≢true}
use Rattle.share_state.specs.declared.connection.Grant.{Grant}
use Rattle.share_state.specs.declared.lease.Lease.{Lease}
use Rattle.share_state.specs.declared.opens.Open.{Open}
use Rattle.share_state.specs.declared.wanted.Wanted.{Wanted}
use Rattle.share_state.specs.declared.place.Place.{Place}
use Rattle.share_state.specs.declared.place.Place.TheVariants.{NoPath, Missing, There}
use Rattle.share_state.specs.declared.request.Who.{Who}
use Rattle.share_state.specs.declared.request.Req.{Req}
use Rattle.share_state.specs.declared.request.Req.TheVariants as req
use Rattle.share_state.specs.declared.request.Rep.{Rep}
use Rattle.share_state.specs.declared.request.RepBody.{RepBody}
use Rattle.share_state.specs.declared.request.RepBody.TheVariants as body
use Rattle.share_state.specs.declared.share.Share.{Share}
use Rattle.share_state.specs.Built.{is_built}
use Rattle.share_state.specs.Leases.{no_granting}
use Rattle.share_state.specs.Names.{components, is_name}
use Rattle.share_state.specs.PlainShare.{plain_wanted}
use Rattle.share_state.specs.State.{emptied}
use Rattle.share_state.specs.Reply.{unless, refused}
use Rattle.share_state.specs.Place.{place_of}
use Rattle.share_state.specs.Create.{create_at, create_of, made, opened, overwrites, refusal_of_missing, refusal_of_there, is_disposition}
use Rattle.share_state.specs.Close.{open_of, close_open}
use Rattle.share_state.specs.Step.{step_of}
use Rattle.fs_plain.specs.World.{is_creating}
use Rattle.fs_plain.specs.Paired.{opened_number, NamesIn, open_given}
use Rattle.fs_plain.specs.Alike.{HasNoLeaseOfOurs}
use Rattle.fs_plain.proofs.Opens.{Creates, create_creates}
use Rattle.fs_plain.proofs.Deeds.{step_deed}
use Rattle.fs_plain.proofs.Steps.{step_names}
use Rattle.fs_plain.proofs.AlikeLaws.{close_ours}

-- a reply gives an open exactly where a CREATE had success
abbrev pub gives : Bool → Rep → Bool
gives creates reply = if creates && reply.status.0 == 0 then is_some (open_given reply.body) else is_none (open_given reply.body)

none_given : (b : RepBody) → NamesIn b → opened_number b ≡ 0 → is_none (open_given b) ≡ true
none_given (body.Opened fid action size attributes lease durable) names is = absurd (false≢true (sym names.1 ∙ ap (λ (n : ℕ). n == 0) is))
none_given other names is = refl

some_given : (b : RepBody) → (opened_number b == 0) ≡ false → is_some (open_given b) ≡ true
some_given (body.Opened fid action size attributes lease durable) is = refl
some_given other is = absurd (false≢true (sym is))

-- the open that is given, where one is
pub given_number : (b : RepBody) → is_some (open_given b) ≡ true → open_given b ≡ Some (opened_number b)
given_number (body.Opened fid action size attributes lease durable) is = refl
given_number other is = absurd (false≢true is)

-- a CREATE is refused, or gives the one open that it makes
pub step_creates : (choice : Option Grant) (s : Share) (who : Who) (r : Req) → is_creating r ≡ true → Creates s who (step_of choice s who r)
step_creates choice s who (req.Create path access share disposition options attributes lease durable) is = create_creates choice s who path (record {
  access = access;
  share = share;
  disposition = disposition;
  options = options;
  attributes = attributes;
  lease = lease;
  durable = durable;
})
step_creates choice s who other is = absurd (false≢true is)

create_gives : (s : Share) (who : Who) (done : Rep × Share) → NamesIn done.0.body → Creates s who done → gives true done.0 ≡ true
create_gives s who done names (inl none) =
    ap (λ (b : Bool). if b then is_some (open_given done.0.body) else is_none (open_given done.0.body)) none.fails ∙ none_given done.0.body names none.gives
create_gives s who done names (inr one) =
    ap (λ (b : Bool). if b then is_some (open_given done.0.body) else is_none (open_given done.0.body)) one.succeeds
    ∙ some_given done.0.body (ap (λ (n : ℕ). n == 0) one.gives ∙ one.numbered)

close_gives : (o : Option Open) (s : Share) → gives false (close_open o s).0 ≡ true
close_gives None s = refl
close_gives (Some o) s = refl

pub step_gives : (choice : Option Grant) (s : Share) (who : Who) (r : Req) → gives (is_creating r) (step_of choice s who r).0 ≡ true
step_gives choice s who (req.Create path access share disposition options attributes lease durable) =
    create_gives s who (step_of choice s who (req.Create path access share disposition options attributes lease durable))
    (step_names choice s who (req.Create path access share disposition options attributes lease durable))
    (step_creates choice s who (req.Create path access share disposition options attributes lease durable) refl)
step_gives choice s who (req.Close fid) = close_gives (open_of s.opens who fid) s
step_gives choice s who other = (step_deed choice s who other refl).gives

-- no lease of ours comes of a request that wants none, whoever asks
unless_ours : (refusal : Option ℕ) (s : Share) (done : Rep × Share) → HasNoLeaseOfOurs s → HasNoLeaseOfOurs done.1 → HasNoLeaseOfOurs (unless refusal s done).1
unless_ours None s done none after = after
unless_ours (Some status) s done none after = none

create_at_ours : (choice : Option Grant) (s : Share) (who : Who) (w : Wanted) (at : Place) → HasNoLeaseOfOurs s → HasNoLeaseOfOurs (create_at choice s who (plain_wanted w) at).1
create_at_ours choice s who w NoPath none = none
create_at_ours choice s who w (Missing d name) none =
    unless_ours (refusal_of_missing s who (plain_wanted w) d) s (made s who (plain_wanted w) no_granting d name) none none
create_at_ours choice s who w (There f) none =
    unless_ours (refusal_of_there s who (plain_wanted w) f) s (opened s who (plain_wanted w) no_granting f) none (by (overwrites w.disposition))
  where
    by : (t : Bool) → HasNoLeaseOfOurs (if t then record s { nodes = map (emptied f.node) s.nodes } else s)
    by true = none
    by false = none

create_ours : (choice : Option Grant) (s : Share) (who : Who) (path : List ℕ) (w : Wanted) → HasNoLeaseOfOurs s → HasNoLeaseOfOurs (create_of choice s who path (plain_wanted w)).1
create_ours choice s who path w none = by (is_disposition w.disposition) (list_all is_name (components path))
  where
    by : (t u : Bool) → HasNoLeaseOfOurs (if not t then refused 0xC000000D s else if not u then refused 0xC0000033 s else create_at choice s who (plain_wanted w) (place_of s (components path))).1
    by false u = none
    by true false = none
    by true true = create_at_ours choice s who w (place_of s (components path)) none

leases_ours : (s : Share) (done : Rep × Share) → done.1.leases ≡ s.leases → HasNoLeaseOfOurs s → HasNoLeaseOfOurs done.1
leases_ours s done same none = ap (λ (leases : List Lease). list_all (λ (l : Lease). not (l.who.0 == 0)) leases) same ∙ none

pub step_ours : (choice : Option Grant) (s : Share) (who : Who) (r : Req) → is_built r ≡ true → HasNoLeaseOfOurs s → HasNoLeaseOfOurs (step_of choice s who r).1
step_ours choice s who (req.Create path access share disposition options attributes (Some wish) durable) built none = absurd (false≢true built)
step_ours choice s who (req.Create path access share disposition options attributes None true) built none = absurd (false≢true built)
step_ours choice s who (req.Create path access share disposition options attributes None false) built none = create_ours choice s who path (record {
  access = access;
  share = share;
  disposition = disposition;
  options = options;
  attributes = attributes;
  lease = None;
  durable = false;
}) none
step_ours choice s who (req.Close fid) built none = close_ours (open_of s.opens who fid) s none
step_ours choice s who other built none = leases_ours s (step_of choice s who other) (step_deed choice s who other refl).leases none

-- A step of the client, and looking at what is owed: what relates the client before the step to the one after it, looking keeps.
use Rattle.std.proofs.Common.{◌≡◌, ◌∙◌, refl, sym, ap, subst, ℕ, Bool, true, false, if◌then◌else◌, List, [], ◌∷◌, ◌++◌, length, Option, Some, None}
use Rattle.std.specs.Prelude.{IsSomeAnd, map, ◌&&◌}
use Rattle.smb_base.specs.declared.names.Mid.{Mid}
use Rattle.share_state.specs.declared.connection.Owed.{Owed}
use Rattle.share_state.specs.declared.connection.Owed.TheVariants as owed
use Rattle.share_state.specs.declared.connection.Sent.{Sent}
use Rattle.share_state.specs.declared.request.Rep.{Rep}
use Rattle.share_state.specs.declared.request.RepBody.TheVariants as body
use Rattle.share_state.specs.Reply.{of_status}
use Rattle.share_state.specs.Sent.{behind_create, sent_but, sent_with}
use Rattle.fs_plain.specs.Masked.{masked}
use Rattle.fs_plain.specs.Requests.{WireRequest, wire_request}
use Rattle.fs_plain.specs.Owners.{Owner, owner_of}
use Rattle.fs_plain.specs.World.{came_to, is_first_of_frame}
use Rattle.fs_client.specs.View.{View}
use Rattle.fs_client.specs.Asked.{creates_as, is_refused, fits, left_by}
use Rattle.fs_client.specs.Looks.{early_but, awaited_with, advanced, went, drained, landed_by, without, answered_aside, landed_owed}
use Rattle.fs_client.specs.Owing.{taken, IsDueTo, IsDueAside, IsDue, AreDue}
use Rattle.fs_client.specs.Sane.{Sane}
use Rattle.fs_client.proofs.Lists.{all_of, found}
use Rattle.fs_client.proofs.Landing.{InTurn, went_sane, found_at}

-- the reply that goes for one to the connection itself
abbrev pub done : Rep
done = of_status 0

-- a reply that is owed, where none is early: its request goes, in its turn
pub reply_is : (v : View) (mid : Mid) (request : List ℕ) (reply : Rep) (x : Sent) → v.early ≡ [] → sent_with mid v.flights ≡ Some x → is_first_of_frame v.flights x ≡ true
    → landed_owed (owed.Reply mid request reply) v ≡ went x (masked request reply) v
reply_is v mid request reply x none there first =
    ap (λ (o : Option Sent). landed_by o (masked request reply) v) (ap (λ (early : List (Mid × Rep)). awaited_with mid (record v { early = early })) none ∙ there)
    ∙ ap (λ (b : Bool). if b then drained (length v.early) (went x (masked request reply) v) else record v { early = v.early ++ (x.mid, masked request reply) ∷ [] }) first
    ∙ ap (λ (early : List (Mid × Rep)). drained (length early) (went x (masked request reply) v)) none

-- one to the connection itself, which is no call's
pub aside_is : (v : View) (mid : Mid) (request : List ℕ) (x : Sent) → v.early ≡ [] → sent_with mid v.flights ≡ Some x → wire_request x.message ≡ Some WireRequest.Aside → owner_of x.mid v.told.owners ≡ None
    → landed_owed (owed.Aside mid request) v ≡ went x done v
aside_is v mid request x none there aside nobodys =
    ap (λ (o : Option Sent). answered_aside o v) (ap (λ (early : List (Mid × Rep)). awaited_with mid (record v { early = early })) none ∙ there) ∙ sym gone
  where
    gone : went x done v ≡ without x.mid v
    gone = ap (λ (o : Option Owner). record v { items = advanced o (is_refused x) done v.items; flights = left_by x done v.flights; early = early_but x.mid v.early }) nobodys
        ∙ ap (λ (b : Bool). record v { flights = if b then map (behind_create x.frame (came_to done body.None)) (sent_but x.mid v.flights) else sent_but x.mid v.flights; early = early_but x.mid v.early }) (ap creates_as aside)
        ∙ ap (λ (early : List (Mid × Rep)). record v { flights = sent_but x.mid v.flights; early = early_but x.mid early }) none
        ∙ sym (ap (λ (early : List (Mid × Rep)). record v { flights = sent_but x.mid v.flights; early = early }) none)

pub aside_fits : (x : Sent) → wire_request x.message ≡ Some WireRequest.Aside → fits x done ≡ true
aside_fits x aside = ap (λ (b : Bool). if b && true then false else true) (ap creates_as aside)

-- Looking keeps a relation between the client before a step and the client after it: a reply in its turn is one after the step too, has
-- the same owner, and leads to related clients.
pub record IsKept (R : View → View → Type 0) : Type 0 where
  pub on : (u v : View) (x : Sent) (reply : Rep) → Sane u → R u v → InTurn u.flights x reply → R (went x reply u) (went x reply v)
  pub turn : (u v : View) (x : Sent) (reply : Rep) → Sane u → R u v → InTurn u.flights x reply → InTurn v.flights x reply
  pub owner : (u v : View) (x : Sent) (reply : Rep) → Sane u → R u v → InTurn u.flights x reply → owner_of x.mid v.told.owners ≡ owner_of x.mid u.told.owners
  pub found : (u v : View) (mid : Mid) (x : Sent) → R u v → sent_with mid u.flights ≡ Some x → sent_with mid v.flights ≡ Some x

-- what a client has once all was looked at
pub record Along (R : View → View → Type 0) (os : List Owed) (u v : View) : Type 0 where
  pub related : R (taken os u) (taken os v)
  pub due : AreDue v os
  pub sane : Sane (taken os u)
  pub none : (taken os u).early ≡ []

-- one look, and then the others
after_one : (R : View → View → Type 0) (o : Owed) (os : List Owed) (u v : View) (x : Sent) (reply : Rep) → landed_owed o u ≡ went x reply u → landed_owed o v ≡ went x reply v → IsDue v o
    → Along R os (went x reply u) (went x reply v) → Along R (o ∷ os) u v
after_one R o os u v x reply is is' due rest = record {
  related = subst (λ (w : View). R (taken os w) (taken os (landed_owed o v))) (sym is) (subst (λ (w : View). R (taken os (went x reply u)) (taken os w)) (sym is') rest.related);
  due = (due, subst (λ (w : View). AreDue w os) (sym is') rest.due);
  sane = subst (λ (w : View). Sane (taken os w)) (sym is) rest.sane;
  none = subst (λ (w : View). (taken os w).early ≡ []) (sym is) rest.none;
}

-- a request is found under each spelling of its id
under : (mid : Mid) (xs ys : List Sent) (x : Sent) → sent_with mid xs ≡ Some x → sent_with x.mid ys ≡ Some x → sent_with mid ys ≡ Some x
under mid xs ys x there here = subst (λ (n : ℕ). sent_with (record { 0 = n }) ys ≡ Some x) (found (λ (z : Sent). Unit {0}) mid xs x there (all_of (λ (z : Sent). Unit {0}) xs (λ z. record {}))).1 here

-- such a relation is kept by looking at all that is owed
pub along : (R : View → View → Type 0) → IsKept R → (os : List Owed) (u v : View) → Sane u → u.early ≡ [] → v.early ≡ [] → R u v → AreDue u os → Along R os u v
along R kept [] u v sane none none' related due = record { related = related; due = record {}; sane = sane; none = none }
along R kept (owed.Interim mid request ∷ os) u v sane none none' related due =
    let rest = along R kept os u v sane none none' related due.1 in
    record { related = rest.related; due = (by (sent_with mid u.flights) refl due.0, rest.due); sane = rest.sane; none = rest.none }
  where
    by : (o : Option Sent) → sent_with mid u.flights ≡ o → IsSomeAnd o (λ (x : Sent). x.message ≡ request) → IsSomeAnd (sent_with mid v.flights) (λ (x : Sent). x.message ≡ request)
    by None there is = absurd is
    by (Some x) there is = subst (λ (o : Option Sent). IsSomeAnd o (λ (y : Sent). y.message ≡ request)) (sym (kept.found u v mid x related there)) is
along R kept (owed.Reply mid request reply ∷ os) u v sane none none' related due =
    by (sent_with mid u.flights) refl due.0 due.1 (λ u' v' sane' early early' related' due'. along R kept os u' v' sane' early early' related' due')
  where
    by : (o : Option Sent) → sent_with mid u.flights ≡ o → IsSomeAnd o (IsDueTo u request reply) → AreDue (landed_owed (owed.Reply mid request reply) u) os
        → ((u' v' : View) → Sane u' → u'.early ≡ [] → v'.early ≡ [] → R u' v' → AreDue u' os → Along R os u' v') → Along R (owed.Reply mid request reply ∷ os) u v
    by None there holds later on = absurd holds
    by (Some x) there holds later on =
        let turn : InTurn u.flights x (masked request reply) = record { there = found_at mid u.flights x there; first = holds.first; fit = holds.fit } in
        let turn' : InTurn v.flights x (masked request reply) = kept.turn u v x (masked request reply) sane related turn in
        let there' : sent_with mid v.flights ≡ Some x = under mid u.flights v.flights x there turn'.there in
        let is = reply_is u mid request reply x none there holds.first in
        let is' = reply_is v mid request reply x none' there' turn'.first in
        after_one R (owed.Reply mid request reply) os u v x (masked request reply) is is'
        (subst (λ (o : Option Sent). IsSomeAnd o (IsDueTo v request reply)) (sym there') (record { message = holds.message; share = holds.share; first = turn'.first; fit = holds.fit }))
        (on (went x (masked request reply) u) (went x (masked request reply) v) (went_sane u x (masked request reply) sane turn.there turn.first turn.fit)
        (ap (early_but x.mid) none) (ap (early_but x.mid) none') (kept.on u v x (masked request reply) sane related turn) (subst (λ (w : View). AreDue w os) is later))
along R kept (owed.Aside mid request ∷ os) u v sane none none' related due =
    by (sent_with mid u.flights) refl due.0 due.1 (λ u' v' sane' early early' related' due'. along R kept os u' v' sane' early early' related' due')
  where
    by : (o : Option Sent) → sent_with mid u.flights ≡ o → IsSomeAnd o (IsDueAside u request) → AreDue (landed_owed (owed.Aside mid request) u) os
        → ((u' v' : View) → Sane u' → u'.early ≡ [] → v'.early ≡ [] → R u' v' → AreDue u' os → Along R os u' v') → Along R (owed.Aside mid request ∷ os) u v
    by None there holds later on = absurd holds
    by (Some x) there holds later on =
        let turn : InTurn u.flights x done = record { there = found_at mid u.flights x there; first = holds.first; fit = aside_fits x holds.aside } in
        let turn' : InTurn v.flights x done = kept.turn u v x done sane related turn in
        let there' : sent_with mid v.flights ≡ Some x = under mid u.flights v.flights x there turn'.there in
        let nobodys : owner_of x.mid v.told.owners ≡ None = kept.owner u v x done sane related turn ∙ holds.nobodys in
        let is = aside_is u mid request x none there holds.aside holds.nobodys in
        let is' = aside_is v mid request x none' there' holds.aside nobodys in
        after_one R (owed.Aside mid request) os u v x done is is'
        (subst (λ (o : Option Sent). IsSomeAnd o (IsDueAside v request)) (sym there') (record { message = holds.message; first = turn'.first; aside = holds.aside; nobodys = nobodys }))
        (on (went x done u) (went x done v) (went_sane u x done sane turn.there turn.first turn.fit)
        (ap (early_but x.mid) none) (ap (early_but x.mid) none') (kept.on u v x done sane related turn) (subst (λ (w : View). AreDue w os) is later))
along R kept (owed.Notice key state wanted ∷ os) u v sane none none' related due = absurd due.0

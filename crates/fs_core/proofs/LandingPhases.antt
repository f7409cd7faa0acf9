-- How far the connection has come, as replies land.
use Rattle.std.proofs.Common.{◌≡◌, ◌∙◌, inl, inr, refl, sym, ap, subst, ℕ, zero, suc, ◌==◌, Bool, true, false, cond, if◌then◌else◌, not, ◌&&◌, ◌||◌, List, [], ◌∷◌, ◌++◌, length, Option, Some, None}
use Rattle.std.specs.Prelude.{MatchBool, IsSomeAnd}
use Rattle.std.specs.List.{AllByRecursion}
use Rattle.std.proofs.lemmas.Bool.{false≢true}
use Rattle.std.proofs.lemmas.Bool.Decides.{eqb_tells}
use Rattle.smb_base.specs.declared.names.Fid.{Fid}
use Rattle.smb_base.specs.declared.names.Mid.{Mid}
use Rattle.smb_head.specs.declared.command.TheConstants.{NEGOTIATE, SESSION_SETUP, TREE_CONNECT, TREE_DISCONNECT, LOGOFF}
use Rattle.smb_mount.specs.declared.facts.Facts.{Facts}
use Rattle.share_state.specs.declared.connection.Sent.{Sent}
use Rattle.share_state.specs.declared.request.Rep.{Rep}
use Rattle.share_state.specs.declared.request.RepBody.TheVariants as body
use Rattle.share_state.specs.PlainShare.{shown}
use Rattle.share_state.specs.Sent.{sent_but, sent_with}
use Rattle.smb_link.specs.Program.{File, Program, Known, Ask, Look, Say, settled}
use Rattle.fs_plain.specs.Requests.{WireRequest, wire_request}
use Rattle.fs_plain.specs.Owners.{Owner, owner_of}
use Rattle.fs_plain.specs.Replies.{command_of}
use Rattle.fs_plain.specs.Wishes.{wish_of}
use Rattle.fs_plain.specs.World.{is_first_of_frame}
use Rattle.fs_client.specs.Item.{Item, item_with, fids_after}
use Rattle.fs_client.specs.View.{Setting, Exchange, View, Client}
use Rattle.fs_client.specs.Asked.{creates, is_refused, refused_as, AsksAs, fits, behind_it}
use Rattle.fs_client.specs.Flies.{AsksNext, FliesAs, files_of, FliesFrom}
use Rattle.fs_client.specs.Looks.{went, in_turn, drained_with, drained, landed_by, without}
use Rattle.fs_client.specs.May.{was_answered, IsAside}
use Rattle.fs_client.specs.Mount.{Stage, Unmounted, Agreed, Challenging, InSession, Mounted, Leads, LeadTo, at_first}
use Rattle.fs_client.specs.Sane.{IsFrom, IsOwnedBy, IsOwned, FliesIn, Sane}
use Rattle.fs_client.proofs.Lists.{all_filter, itself, equal, none_some, some_is, found, item_found}
use Rattle.fs_client.proofs.Flights.{in_flies, out_flies, it_message}
use Rattle.fs_client.proofs.Landing.{all_left}
use Rattle.fs_core.specs.declared.phase.Phase.{Phase}
use Rattle.fs_core.specs.declared.phase.Phase.TheVariants as phase
use Rattle.fs_core.specs.Fits.{IsNoLeave, IsAlone, IsAtMost, IsStaying, Mounts, IsMounted, IsOver, IsAsked, IsAt}
use Rattle.fs_core.specs.Steps.{LeadsTo}

-- a request of the connection itself is no call's: no call asks for one
refusal : Rep
refusal = record { status = record { 0 = 1 }; body = body.None }

refusal_fits : (x : Sent) → fits x refusal ≡ true
unfolding refusal
refusal_fits x = by (creates x)
  where
    by : (t : Bool) → (if t && false then false else true) ≡ true
    by true = refl
    by false = refl

none_aside : (files : List Fid → File → Fid) (known : Known) (frame : Mid) (seen : Sent → Sent) (p : Program) (fids : List Fid) (xs : List Sent)
    → ((y : Sent) → (seen y).message ≡ y.message)
    → FliesAs files known frame seen p fids xs → AllByRecursion (λ (y : Sent). (y.frame.0 == frame.0) ≡ true → IsAside y → ⊥) xs
none_aside files known frame seen p fids [] same flies = tt
none_aside files known frame seen p fids (x ∷ xs) same flies = elim (eqb_tells x.frame.0 frame.0) [
  | inl told ↦ here (is_refused (seen x)) refl (in_flies files known frame seen p fids x xs told.0 flies)
      (λ seen' p' fids' same' f. none_aside files known frame seen' p' fids' xs same' f)
  | inr told ↦ (
    λ at aside. false≢true (sym told.0 ∙ at),
    none_aside files known frame seen p fids xs same (out_flies files known frame seen p fids x xs told.0 flies),
  )
]
  where
    Then : Program → Rep → Type 0
    Then rest reply = FliesAs files known frame (λ y. behind_it (seen x) reply (seen y)) rest (fids_after reply fids) xs

    aside_is : IsAside x → wire_request (seen x).message ≡ Some WireRequest.Aside
    aside_is aside = ap wire_request (same x) ∙ aside

    asks : (q : Program) → AsksNext files (seen x) fids q Then
        → ((seen' : Sent → Sent) (p' : Program) (fids' : List Fid) → ((y : Sent) → (seen' y).message ≡ y.message) → FliesAs files known frame seen' p' fids' xs
        → AllByRecursion (λ (y : Sent). (y.frame.0 == frame.0) ≡ true → IsAside y → ⊥) xs)
        → AllByRecursion (λ (y : Sent). (y.frame.0 == frame.0) ≡ true → IsAside y → ⊥) (x ∷ xs)
    asks (Ask wish rest) h deeper = (
      λ at aside. subst (λ (v : Option WireRequest). AsksAs v (seen x).last_create (wish_of (files fids) wish)) (aside_is aside) h.0.0,
      deeper (λ y. behind_it (seen x) refusal (seen y)) (rest (shown refusal)) (fids_after refusal fids) (λ y. it_message (seen x) refusal (seen y) ∙ same y)
          (h.1 refusal (refusal_fits (seen x))),
    )
    asks (Look rest) h deeper = absurd h
    asks (Say answer) h deeper = absurd h

    here : (t : Bool) → is_refused (seen x) ≡ t → MatchBool t (FliesAs files known frame seen p fids xs) (AsksNext files (seen x) fids (settled known p) Then)
        → ((seen' : Sent → Sent) (p' : Program) (fids' : List Fid) → ((y : Sent) → (seen' y).message ≡ y.message) → FliesAs files known frame seen' p' fids' xs
        → AllByRecursion (λ (y : Sent). (y.frame.0 == frame.0) ≡ true → IsAside y → ⊥) xs)
        → AllByRecursion (λ (y : Sent). (y.frame.0 == frame.0) ≡ true → IsAside y → ⊥) (x ∷ xs)
    here true is f deeper = (
      λ at aside. false≢true (sym (ap (λ (v : Option WireRequest). refused_as v (seen x).last_create) (aside_is aside)) ∙ is),
      deeper seen p fids same f,
    )
    here false is f deeper = asks (settled known p) f deeper

pub aside_nobodys : (v : View) (x : Sent) → Sane v → sent_with x.mid v.flights ≡ Some x → IsAside x → owner_of x.mid v.told.owners ≡ None
aside_nobodys v x sane there aside = by (owner_of x.mid v.told.owners) (found (IsOwned v.items v.told.owners) x.mid v.flights x there sane.owned).0
  where
    item : (o : Owner) (p : Option Item) → item_with o.number v.items ≡ p → IsSomeAnd p (IsFrom o x) → ⊥
    item o None runs own = own
    item o (Some i) runs own =
        (found (λ (y : Sent). (y.frame.0 == x.frame.0) ≡ true → IsAside y → ⊥) x.mid v.flights x there
        (none_aside (files_of i v.placed) i.known x.frame (λ y. y) i.rest i.fids v.flights (λ y. refl)
        (subst (λ (m : Option Mid). FliesFrom m i v.placed v.flights) own.frame (item_found (FliesIn v) o.number v.items i runs sane.flies).0))).0
        (itself x.frame.0) aside

    by : (o : Option Owner) → IsOwnedBy o v.items x → o ≡ None
    by None own = refl
    by (Some o) own = absurd (item o (item_with o.number v.items) refl own)

-- while no call runs, each request in flight is one of the connection itself
pub no_call_aside : (v : View) (x : Sent) → Sane v → v.items ≡ [] → sent_with x.mid v.flights ≡ Some x → IsAside x
no_call_aside v x sane none there = by (owner_of x.mid v.told.owners) (found (IsOwned v.items v.told.owners) x.mid v.flights x there sane.owned).0
  where
    by : (o : Option Owner) → IsOwnedBy o v.items x → IsAside x
    by None own = own.aside
    by (Some o) own = absurd (subst (λ (is : List Item). IsSomeAnd (item_with o.number is) (IsFrom o x)) none own)

-- an exchange more
lead_append : (s t next : Stage) (exchanges : List Exchange) (e : Exchange) → LeadTo s exchanges t → Leads t e.reply next → LeadTo s (exchanges ++ e ∷ []) next
lead_append s t next [] e come leads = (next, subst (λ (u : Stage). Leads u e.reply next) (sym come) leads, refl)
lead_append s t next (f ∷ exchanges) e come leads = (come.0, come.1, lead_append come.0 t next exchanges e come.2 leads)

answered_append : (command : ℕ) (exchanges : List Exchange) (e : Exchange)
    → was_answered command (exchanges ++ e ∷ []) ≡ (was_answered command exchanges || command_of e.request == command)
answered_append command [] e = or_false (command_of e.request == command)
  where
    or_false : (b : Bool) → (b || false) ≡ b
    or_false true = refl
    or_false false = refl
answered_append command (f ∷ exchanges) e =
    ap (λ (b : Bool). command_of f.request == command || b) (answered_append command exchanges e)
    ∙ either (command_of f.request == command) (was_answered command exchanges) (command_of e.request == command)
  where
    either : (a b c : Bool) → (a || (b || c)) ≡ ((a || b) || c)
    either true b c = refl
    either false b c = refl

not_answered : (command : ℕ) (exchanges : List Exchange) (e : Exchange) → was_answered command exchanges ≡ false → (command_of e.request == command) ≡ false
    → was_answered command (exchanges ++ e ∷ []) ≡ false
not_answered command exchanges e none other = answered_append command exchanges e ∙ ap (λ (b : Bool). b || command_of e.request == command) none ∙ other

now_answered : (command : ℕ) (exchanges : List Exchange) (e : Exchange) → (command_of e.request == command) ≡ true
    → was_answered command (exchanges ++ e ∷ []) ≡ true
now_answered command exchanges e is =
    answered_append command exchanges e ∙ ap (λ (b : Bool). was_answered command exchanges || b) is ∙ or_true (was_answered command exchanges)
  where
    or_true : (b : Bool) → (b || true) ≡ true
    or_true true = refl
    or_true false = refl

still_answered : (command : ℕ) (exchanges : List Exchange) (e : Exchange) → was_answered command exchanges ≡ true
    → was_answered command (exchanges ++ e ∷ []) ≡ true
still_answered command exchanges e is = answered_append command exchanges e ∙ ap (λ (b : Bool). b || command_of e.request == command) is

-- the only request in flight goes
alone_gone : (command : ℕ) (xs : List Sent) (x : Sent) → IsAlone command xs → sent_with x.mid xs ≡ Some x
    → (sent_but x.mid xs ≡ []) × (command_of x.message ≡ command)
alone_gone command [] x alone there = absurd alone
alone_gone command (y ∷ []) x alone there = by (y.mid.0 == x.mid.0) there
  where
    by : (t : Bool) → (if t then Some y else None) ≡ Some x → (cond (not t) (y ∷ []) [] ≡ []) × (command_of x.message ≡ command)
    by true there = (refl, ap (λ (z : Sent). command_of z.message) (sym (some_is y x there)) ∙ alone)
    by false there = absurd (none_some x there)
alone_gone command (y ∷ z ∷ xs) x alone there = absurd alone

none_there : {A : Type 0} (xs : List Sent) (x : Sent) → xs ≡ [] → sent_with x.mid xs ≡ Some x → A
none_there xs x none there = absurd (none_some x (subst (λ (l : List Sent). sent_with x.mid l ≡ Some x) none there))

pub at_most_gone : (command : ℕ) (xs : List Sent) (x : Sent) → IsAtMost command xs → sent_with x.mid xs ≡ Some x
    → (sent_but x.mid xs ≡ []) × (command_of x.message ≡ command)
at_most_gone command xs x (inl alone) there = alone_gone command xs x alone there
at_most_gone command xs x (inr none) there = none_there xs x none there

-- the client once a request of the connection itself has its reply
abbrev pub asided : Sent → List ℕ → Client → Client
asided x part c = record {
  view = without x.mid c.view;
  tally = record c.tally { exchanges = c.tally.exchanges ++ record { request = x.message; reply = part } ∷ [] };
}

-- a mount goes on
staying_on : (command : ℕ) (x : Sent) (part : List ℕ) (c : Client) → command_of x.message ≡ command → IsNoLeave command → IsStaying c
    → IsStaying (asided x part c)
staying_on command x part c is other staying = (
  not_answered TREE_DISCONNECT c.tally.exchanges (record { request = x.message; reply = part }) staying.0 (ap (λ (n : ℕ). n == TREE_DISCONNECT) is ∙ other.0),
  not_answered LOGOFF c.tally.exchanges (record { request = x.message; reply = part }) staying.1 (ap (λ (n : ℕ). n == LOGOFF) is ∙ other.1),
)

mount_goes : (st : Setting) (s next : Stage) (command later : ℕ) (x : Sent) (part : List ℕ) (c : Client) → sent_with x.mid c.view.flights ≡ Some x
    → IsNoLeave command → Mounts st s command c → Leads s part next
    → Mounts st next later (asided x part c)
mount_goes st s next command later x part c there other mounts leads =
    let gone = at_most_gone command c.view.flights x mounts.asked there in
    record {
      connected = mounts.connected;
      come = lead_append (at_first st) s next c.tally.exchanges (record { request = x.message; reply = part }) mounts.come leads;
      no_call = mounts.no_call;
      asked = inr gone.0;
      staying = staying_on command x part c gone.1 other mounts.staying;
    }

mount_ends : (st : Setting) (s : Stage) (facts : Facts) (command : ℕ) (x : Sent) (part : List ℕ) (c : Client) → sent_with x.mid c.view.flights ≡ Some x
    → IsNoLeave command → Mounts st s command c
    → Leads s part (Mounted facts) → IsAt st (phase.On facts) (asided x part c)
mount_ends st s facts command x part c there other mounts leads =
    let gone = at_most_gone command c.view.flights x mounts.asked there in (
      record {
        connected = mounts.connected;
        come = lead_append (at_first st) s (Mounted facts) c.tally.exchanges (record { request = x.message; reply = part }) mounts.come leads;
      },
      staying_on command x part c gone.1 other mounts.staying,
      subst (AllByRecursion (λ (y : Sent). IsNoLeave (command_of y.message))) (sym gone.0) tt,
    )

-- once the share is mounted, its facts stay
mounted_on : (st : Setting) (facts : Facts) (x : Sent) (part : List ℕ) (c : Client) → IsMounted st facts c → IsMounted st facts (asided x part c)
mounted_on st facts x part c mounted = record {
  connected = mounted.connected;
  come = lead_append (at_first st) (Mounted facts) (Mounted facts) c.tally.exchanges (record { request = x.message; reply = part }) mounted.come refl;
}

over_on : (st : Setting) (facts : Facts) (x : Sent) (part : List ℕ) (c : Client) → IsOver st facts c → IsOver st facts (asided x part c)
over_on st facts x part c over = record { mounted = mounted_on st facts x part c over.mounted; no_call = over.no_call; ended = over.ended }

asked_on : (command : ℕ) (x : Sent) (part : List ℕ) (c : Client) → sent_with x.mid c.view.flights ≡ Some x → IsAsked command c
    → IsAsked command (asided x part c) × (command_of x.message ≡ command)
asked_on command x part c there (inl alone) =
    let gone = alone_gone command c.view.flights x alone.1 there in (
      inr (now_answered command c.tally.exchanges (record { request = x.message; reply = part }) (equal (command_of x.message) command gone.1), gone.0),
      gone.1,
    )
asked_on command x part c there (inr quiet) = none_there c.view.flights x quiet.1 there

-- a reply to a request of the connection itself
pub aside_phase : (st : Setting) (x : Sent) (part : List ℕ) (c : Client) (p p' : Phase) → sent_with x.mid c.view.flights ≡ Some x → IsAt st p c
    → LeadsTo p part p' → IsAt st p' (asided x part c)
aside_phase st x part c (phase.Apart start) p' there at leads = none_there c.view.flights x at.no_flight there
aside_phase st x part c (phase.Greeting k) (phase.SettingUp k') there at leads =
    mount_goes st (Unmounted k) (Agreed k') NEGOTIATE SESSION_SETUP x part c there (refl, refl) at leads
aside_phase st x part c (phase.Greeting k) other there at leads = absurd leads
aside_phase st x part c (phase.SettingUp k) (phase.Answering k') there at leads =
    mount_goes st (Agreed k) (Challenging k') SESSION_SETUP SESSION_SETUP x part c there (refl, refl) at leads
aside_phase st x part c (phase.SettingUp k) (phase.Joining k') there at leads =
    mount_goes st (Agreed k) (InSession k') SESSION_SETUP TREE_CONNECT x part c there (refl, refl) at leads
aside_phase st x part c (phase.SettingUp k) other there at leads = absurd leads
aside_phase st x part c (phase.Answering k) (phase.Joining k') there at leads =
    mount_goes st (Challenging k) (InSession k') SESSION_SETUP TREE_CONNECT x part c there (refl, refl) at leads
aside_phase st x part c (phase.Answering k) other there at leads = absurd leads
aside_phase st x part c (phase.Joining k) (phase.On facts') there at leads =
    mount_ends st (InSession k) facts' TREE_CONNECT x part c there (refl, refl) at leads
aside_phase st x part c (phase.Joining k) other there at leads = absurd leads
aside_phase st x part c (phase.On facts) p' there at leads =
    subst (λ (p : Phase). IsAt st p (asided x part c)) (sym leads) (
      mounted_on st facts x part c at.0,
      staying_on (command_of x.message) x part c refl (found (λ (y : Sent). IsNoLeave (command_of y.message)) x.mid c.view.flights x there at.2).0 at.1,
      all_filter (λ (y : Sent). IsNoLeave (command_of y.message)) (λ (y : Sent). not (y.mid.0 == x.mid.0)) c.view.flights at.2,
    )
aside_phase st x part c (phase.LeavingTree facts) p' there at leads =
    let asked = asked_on TREE_DISCONNECT x part c there at.1 in
    subst (λ (p : Phase). IsAt st p (asided x part c)) (sym leads) (
      over_on st facts x part c at.0,
      asked.0,
      not_answered LOGOFF c.tally.exchanges (record { request = x.message; reply = part }) at.2 (ap (λ (n : ℕ). n == LOGOFF) asked.1),
    )
aside_phase st x part c (phase.LeavingSession facts) p' there at leads =
    let asked = asked_on LOGOFF x part c there at.2 in
    subst (λ (p : Phase). IsAt st p (asided x part c)) (sym leads) (
      over_on st facts x part c at.0,
      still_answered TREE_DISCONNECT c.tally.exchanges (record { request = x.message; reply = part }) at.1,
      asked.0,
    )
aside_phase st x part c phase.Left p' there at leads = none_there c.view.flights x at.2 there
aside_phase st x part c phase.Lost p' there at leads = absurd at

-- a reply to a request of a call: what holds of all messages in flight holds on
pub landed_all : (P : List ℕ → Type 0) (x : Sent) (reply : Rep) (v : View) → AllByRecursion (λ (y : Sent). P y.message) v.flights
    → AllByRecursion (λ (y : Sent). P y.message) (landed_by (Some x) reply v).flights
landed_all P x reply v all = by (is_first_of_frame v.flights x)
  where
    went_all : (y : Sent) (r : Rep) (u : View) → AllByRecursion (λ (z : Sent). P z.message) u.flights
        → AllByRecursion (λ (z : Sent). P z.message) (went y r u).flights
    went_all y r u all = all_left (λ (z : Sent). P z.message) y r u.flights (λ z p. subst P (sym (it_message y r z)) p) all

    drained_all : (n : ℕ) (u : View) → AllByRecursion (λ (z : Sent). P z.message) u.flights → AllByRecursion (λ (z : Sent). P z.message) (drained n u).flights
    drained_all zero u all = all
    drained_all (suc n) u all = next (in_turn u.flights u.early) (drained_all n)
      where
        next : (o : Option (Sent × Rep))
            → ((w : View) → AllByRecursion (λ (z : Sent). P z.message) w.flights → AllByRecursion (λ (z : Sent). P z.message) (drained n w).flights)
            → AllByRecursion (λ (z : Sent). P z.message) (drained_with o (drained n) u).flights
        next None others = all
        next (Some turn) others = others (went turn.0 turn.1 u) (went_all turn.0 turn.1 u all)

    by : (t : Bool)
        → AllByRecursion (λ (z : Sent). P z.message) (if t then drained (length v.early) (went x reply v)
        else record v { early = v.early ++ (x.mid, reply) ∷ [] }).flights
    by true = drained_all (length v.early) (went x reply v) (went_all x reply v all)
    by false = all

-- what it leaves alone
pub record Leaves (v w : View) : Type 0 where
  pub connected : w.connected ≡ v.connected
  pub told : w.told ≡ v.told

drained_leaves : (n : ℕ) (v : View) → Leaves v (drained n v)
drained_leaves zero v = record { connected = refl; told = refl }
drained_leaves (suc n) v = by (in_turn v.flights v.early) (drained_leaves n)
  where
    by : (o : Option (Sent × Rep)) → ((u : View) → Leaves u (drained n u)) → Leaves v (drained_with o (drained n) v)
    by None others = record { connected = refl; told = refl }
    by (Some next) others =
        let l = others (went next.0 next.1 v) in
        record { connected = l.connected; told = l.told }

pub landed_leaves : (x : Sent) (reply : Rep) (v : View) → Leaves v (landed_by (Some x) reply v)
landed_leaves x reply v = by (is_first_of_frame v.flights x)
  where
    by : (t : Bool) → Leaves v (if t then drained (length v.early) (went x reply v) else record v { early = v.early ++ (x.mid, reply) ∷ [] })
    by true =
        let l = drained_leaves (length v.early) (went x reply v) in
        record { connected = l.connected; told = l.told }
    by false = record { connected = refl; told = refl }

-- the client once a request of a call has its reply
abbrev pub landed_at : Sent → Rep → Client → Client
landed_at x reply c = record { view = landed_by (Some x) reply c.view; tally = c.tally }

-- where no call runs, there is none
no_share : {A : Type 0} (x : Sent) (c : Client) (w : WireRequest) → Sane c.view → c.view.items ≡ [] → sent_with x.mid c.view.flights ≡ Some x
    → wire_request x.message ≡ Some w → (w ≡ WireRequest.Aside → ⊥) → A
no_share x c w sane none there is other = absurd (other (some_is w WireRequest.Aside (sym is ∙ no_call_aside c.view x sane none there)))

pub landed_phase : (st : Setting) (x : Sent) (reply : Rep) (c : Client) (p : Phase) (w : WireRequest) → Sane c.view → sent_with x.mid c.view.flights ≡ Some x
    → wire_request x.message ≡ Some w
    → (w ≡ WireRequest.Aside → ⊥) → IsAt st p c → IsAt st p (landed_at x reply c)
landed_phase st x reply c (phase.Apart start) w sane there is other at = none_there c.view.flights x at.no_flight there
landed_phase st x reply c (phase.Greeting k) w sane there is other at = no_share x c w sane at.no_call there is other
landed_phase st x reply c (phase.SettingUp k) w sane there is other at = no_share x c w sane at.no_call there is other
landed_phase st x reply c (phase.Answering k) w sane there is other at = no_share x c w sane at.no_call there is other
landed_phase st x reply c (phase.Joining k) w sane there is other at = no_share x c w sane at.no_call there is other
landed_phase st x reply c (phase.On facts) w sane there is other at = (
  record { connected = (landed_leaves x reply c.view).connected ∙ at.0.connected; come = at.0.come },
  at.1,
  landed_all (λ (m : List ℕ). IsNoLeave (command_of m)) x reply c.view at.2,
)
landed_phase st x reply c (phase.LeavingTree facts) w sane there is other at = no_share x c w sane at.0.no_call there is other
landed_phase st x reply c (phase.LeavingSession facts) w sane there is other at = no_share x c w sane at.0.no_call there is other
landed_phase st x reply c phase.Left w sane there is other at = none_there c.view.flights x at.2 there
landed_phase st x reply c phase.Lost w sane there is other at = absurd at

-- The client once it has looked at all that it is owed: what holds of it, and one more that is owed.
use Rattle.std.proofs.Common.{◌≡◌, ◌∙◌, refl, sym, ap, subst, ℕ, ◌==◌, Bool, true, false, if◌then◌else◌, List, [], ◌∷◌, ◌++◌, Option, Some, None}
use Rattle.std.specs.Prelude.{IsSomeAnd, map, ◌&&◌}
use Rattle.fs_types.specs.declared.call.Call.{Call}
use Rattle.share_state.specs.declared.connection.Owed.{Owed}
use Rattle.share_state.specs.declared.connection.Owed.TheVariants as owed
use Rattle.share_state.specs.declared.connection.Sent.{Sent}
use Rattle.share_state.specs.declared.request.Rep.{Rep}
use Rattle.share_state.specs.declared.share.Share.{Share}
use Rattle.fs_plain.specs.Masked.{masked}
use Rattle.fs_plain.specs.Requests.{WireRequest, wire_request}
use Rattle.share_state.specs.Sent.{sent_with}
use Rattle.fs_plain.specs.Owners.{Owner, owner_of}
use Rattle.fs_plain.specs.PlainSide.{PlainSide}
use Rattle.fs_client.specs.Item.{Item, on_item, gone_on}
use Rattle.fs_client.specs.View.{View}
use Rattle.fs_client.specs.Asked.{creates_as, is_refused, fits}
use Rattle.fs_client.specs.Looks.{early_but, advanced, went, landed_owed}
use Rattle.fs_client.specs.Owing.{taken, IsDueTo, IsDueAside, IsDue, AreDue}
use Rattle.fs_client.specs.Sane.{Sane}
use Rattle.fs_client.proofs.Landing.{InTurn, went_sane, found_at}
use Rattle.fs_client.proofs.Keeping.{done, reply_is, aside_is}
use Rattle.fs_refine.specs.Related.{Along, Cached}
use Rattle.fs_refine.proofs.CallLists.{stem}

-- what a look at what is owed does: nothing, or a request goes with its reply, in its turn
pub data Look (o : Owed) (v : View) : Type 0 where
  Nothing : landed_owed o v ≡ v → Look o v
  Goes : (x : Sent) (reply : Rep) → InTurn v.flights x reply → landed_owed o v ≡ went x reply v → Look o v

aside_fits : (x : Sent) → wire_request x.message ≡ Some WireRequest.Aside → fits x done ≡ true
aside_fits x aside = ap (λ (b : Bool). if b && true then false else true) (ap creates_as aside)

pub look : (o : Owed) (v : View) → v.early ≡ [] → IsDue v o → Look o v
look (owed.Interim mid request) v none due = Nothing refl
look (owed.Reply mid request reply) v none due = by (sent_with mid v.flights) refl due
  where
    by : (o : Option Sent) → sent_with mid v.flights ≡ o → IsSomeAnd o (IsDueTo v request reply) → Look (owed.Reply mid request reply) v
    by None there is = absurd is
    by (Some x) there is = Goes x (masked request reply) (record { there = found_at mid v.flights x there; first = is.first; fit = is.fit })
        (reply_is v mid request reply x none there is.first)
look (owed.Aside mid request) v none due = by (sent_with mid v.flights) refl due
  where
    by : (o : Option Sent) → sent_with mid v.flights ≡ o → IsSomeAnd o (IsDueAside v request) → Look (owed.Aside mid request) v
    by None there is = absurd is
    by (Some x) there is = Goes x done (record { there = found_at mid v.flights x there; first = is.first; fit = aside_fits x is.aside })
        (aside_is v mid request x none there is.aside is.nobodys)
look (owed.Notice key state wanted) v none due = absurd due

-- what holds of a client where it holds on with each reply in its turn
pub look_keeps : (P : View → Type 0) → ((v : View) (x : Sent) (reply : Rep) → Sane v → InTurn v.flights x reply → P v → P (went x reply v))
    → (o : Owed) (v : View) → Sane v → v.early ≡ [] → IsDue v o → P v → P (landed_owed o v)
look_keeps P keeps o v sane none due p = by (look o v none due)
  where
    by : Look o v → P (landed_owed o v)
    by (Nothing is) = subst P (sym is) p
    by (Goes x reply turn is) = subst P (sym is) (keeps v x reply sane turn p)

-- it stays whole, with no early reply
pub record IsWell (v : View) : Type 0 where
  pub sane : Sane v
  pub early : v.early ≡ []

pub well_looked : (o : Owed) (v : View) → IsWell v → IsDue v o → IsWell (landed_owed o v)
well_looked o v well due = look_keeps IsWell
    (λ u x reply sane turn w. record { sane = went_sane u x reply sane turn.there turn.first turn.fit; early = ap (early_but x.mid) w.early }) o v well.sane well.early due well

pub taken_keeps : (P : View → Type 0) → ((v : View) (x : Sent) (reply : Rep) → Sane v → InTurn v.flights x reply → P v → P (went x reply v))
    → (os : List Owed) (v : View) → IsWell v → AreDue v os → P v → P (taken os v)
taken_keeps P keeps [] v well due p = p
taken_keeps P keeps (o ∷ os) v well due p =
    taken_keeps P keeps os (landed_owed o v) (well_looked o v well due.0) due.1 (look_keeps P keeps o v well.sane well.early due.0 p)

pub well_taken : (os : List Owed) (v : View) → IsWell v → AreDue v os → IsWell (taken os v)
well_taken [] v well due = well
well_taken (o ∷ os) v well due = well_taken os (landed_owed o v) (well_looked o v well due.0) due.1

-- the client is told nothing by looking, and its calls keep all but what is left of them and their opens
pub record IsSame (v u : View) : Type 0 where
  pub told : u.told ≡ v.told
  pub held : u.held ≡ v.held
  pub connected : u.connected ≡ v.connected
  pub next : u.next ≡ v.next
  pub placed : u.placed ≡ v.placed
  pub stems : map stem u.items ≡ map stem v.items

stems_on : (n : ℕ) (f : Item → Item) → ((i : Item) → stem (f i) ≡ stem i) → (items : List Item) → map stem (on_item n f items) ≡ map stem items
stems_on n f same [] = refl
stems_on n f same (i ∷ is) = by (i.number == n) (stems_on n f same is)
  where
    by : (t : Bool) → map stem (on_item n f is) ≡ map stem is → map stem (if t then f i ∷ is else i ∷ on_item n f is) ≡ stem i ∷ map stem is
    by true deeper = ap (λ (s : (ℕ × ℕ) × (Call × (Bool × Option ℕ))). s ∷ map stem is) (same i)
    by false deeper = ap (λ (l : List ((ℕ × ℕ) × (Call × (Bool × Option ℕ)))). stem i ∷ l) deeper

stems_advanced : (o : Option Owner) (refused : Bool) (reply : Rep) (items : List Item) → map stem (advanced o refused reply items) ≡ map stem items
stems_advanced None refused reply items = refl
stems_advanced (Some o) true reply items = refl
stems_advanced (Some o) false reply items = stems_on o.number (gone_on o.known reply) (λ i. refl) items

pub same_taken : (os : List Owed) (v : View) → IsWell v → AreDue v os → IsSame v (taken os v)
same_taken os v well due = taken_keeps (IsSame v)
    (λ u x reply sane turn same. record {
      told = same.told;
      held = same.held;
      connected = same.connected;
      next = same.next;
      placed = same.placed;
      stems = stems_advanced (owner_of x.mid u.told.owners) (is_refused x) reply u.items ∙ same.stems;
    }) os v well due (record { told = refl; held = refl; connected = refl; next = refl; placed = refl; stems = refl })

-- one more is owed
pub taken_more : (os : List Owed) (o : Owed) (v : View) → taken (os ++ o ∷ []) v ≡ landed_owed o (taken os v)
taken_more [] o v = refl
taken_more (p ∷ os) o v = taken_more os o (landed_owed p v)

pub due_more : (os : List Owed) (o : Owed) (v : View) → AreDue v os → IsDue (taken os v) o → AreDue v (os ++ o ∷ [])
due_more [] o v due is = (is, record {})
due_more (p ∷ os) o v due is = (due.0, due_more os o (landed_owed p v) due.1 is)

-- what holds of each sane client holds at each look
pub along_all : (P : View → Type 0) → ((u : View) → Sane u → P u) → (os : List Owed) (v : View) → IsWell v → AreDue v os → Along P v os
along_all P f [] v well due = f v well.sane
along_all P f (o ∷ os) v well due = (f v well.sane, along_all P f os (landed_owed o v) (well_looked o v well due.0) due.1)

pub cached_along : (s : Share) (p : PlainSide) (os : List Owed) (v : View) → IsWell v → AreDue v os → Along (Cached s p) v os
cached_along s p os v well due = along_all (Cached s p) (λ u sane. sane.no_lease) os v well due

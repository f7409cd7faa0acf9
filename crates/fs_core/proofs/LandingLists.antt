-- The calls and the requests in flight of the core, beside those of the client, one for one: what is found, what goes, what changes.
use Rattle.std.proofs.Common.{rules, ◌≡◌, ◌⊎◌, inl, inr, ◌∙◌, refl, sym, ap, subst, ℕ, ◌==◌, Bool, true, false, cond, if◌then◌else◌, not, ◌&&◌, List, [], ◌∷◌, Option, Some, None}
use Rattle.std.specs.Prelude.{map, is_some}
use Rattle.std.proofs.lemmas.Bool.{false≢true}
use Rattle.smb_base.specs.declared.names.Mid.{Mid}
use Rattle.fs_types.specs.declared.options.Options.{Options}
use Rattle.share_state.specs.declared.connection.LastCreate.{LastCreate}
use Rattle.share_state.specs.declared.connection.Sent.{Sent}
use Rattle.share_state.specs.declared.request.Rep.{Rep}
use Rattle.share_state.specs.declared.request.RepBody.{RepBody}
use Rattle.share_state.specs.Sent.{behind_create, sent_but, sent_with}
use Rattle.fs_plain.specs.Requests.{WireRequest, wire_request}
use Rattle.fs_plain.specs.Owners.{Owner}
use Rattle.fs_plain.specs.World.{is_creating, refusal_before, came_to, is_first_of_frame}
use Rattle.fs_client.specs.Item.{Item, item_with, on_item}
use Rattle.fs_client.specs.Asked.{creates, creates_as, refused_as, left_by}
use Rattle.fs_core.specs.declared.flight.Flight.{Flight}
use Rattle.fs_core.specs.declared.flight.Kind.{Kind}
use Rattle.fs_core.specs.declared.flight.Kind.TheVariants as kind
use Rattle.fs_core.specs.declared.slot.Slot.{Slot}
use Rattle.fs_core.specs.Fits.{Shows, AllShow, IsOfShare, IsOfKind, Flies, AllFly}
use Rattle.fs_core.specs.Parts.{on_slot, flight_with, flights_but, is_first, behind}
use Rattle.fs_core.specs.Steps.{gives_open, is_open, flights_left}

-- the request that is found with an id, on both sides, or none
abbrev pub SameFound : List Owner → Option Flight → Option Sent → Type 0
SameFound owners None None = Unit {0}
SameFound owners None (Some x) = ⊥
SameFound owners (Some f) None = ⊥
SameFound owners (Some f) (Some x) = Flies owners f x

pub found_same : (owners : List Owner) (mid : Mid) (fs : List Flight) (xs : List Sent) → AllFly owners fs xs
    → SameFound owners (flight_with mid fs) (sent_with mid xs)
found_same owners mid [] [] all = record {}
found_same owners mid [] (x ∷ xs) all = absurd all
found_same owners mid (f ∷ fs) [] all = absurd all
found_same owners mid (f ∷ fs) (x ∷ xs) all =
    subst (λ (m : Mid). SameFound owners (if m.0 == mid.0 then Some f else flight_with mid fs) (if x.mid.0 == mid.0 then Some x else sent_with mid xs))
    (sym all.0.mid)
    (by (x.mid.0 == mid.0) (found_same owners mid fs xs all.1))
  where
    by : (t : Bool) → SameFound owners (flight_with mid fs) (sent_with mid xs)
        → SameFound owners (if t then Some f else flight_with mid fs) (if t then Some x else sent_with mid xs)
    by true deeper = all.0
    by false deeper = deeper

-- the one that flies with a request that is found
pub record Found (owners : List Owner) (fs : List Flight) (mid : Mid) (x : Sent) : Type 0 where
  pub flight : Flight
  pub there : flight_with mid fs ≡ Some flight
  pub flies : Flies owners flight x

pub flight_found : (owners : List Owner) (mid : Mid) (fs : List Flight) (xs : List Sent) (x : Sent) → AllFly owners fs xs → sent_with mid xs ≡ Some x
    → Found owners fs mid x
flight_found owners mid fs xs x all there = by (flight_with mid fs) refl (subst (SameFound owners (flight_with mid fs)) there (found_same owners mid fs xs all))
  where
    by : (o : Option Flight) → flight_with mid fs ≡ o → SameFound owners o (Some x) → Found owners fs mid x
    by None is same = absurd same
    by (Some f) is same = record { flight = f; there = is; flies = same }

-- a request is the first of its frame on both sides
pub first_same : (owners : List Owner) (fs : List Flight) (xs : List Sent) (f : Flight) (x : Sent) → AllFly owners fs xs → f.mid ≡ x.mid → f.frame ≡ x.frame
    → is_first fs f ≡ is_first_of_frame xs x
first_same owners [] [] f x all mid frame = refl
first_same owners [] (y ∷ ys) f x all mid frame = absurd all
first_same owners (g ∷ gs) [] f x all mid frame = absurd all
first_same owners (g ∷ gs) (y ∷ ys) f x all mid frame =
    ap (λ (m : Mid). if m.0 == f.frame.0 then g.mid.0 == f.mid.0 else is_first gs f) all.0.frame
    ∙ ap (λ (m : Mid). if y.frame.0 == m.0 then g.mid.0 == f.mid.0 else is_first gs f) frame
    ∙ ap (λ (m : Mid). if y.frame.0 == x.frame.0 then m.0 == f.mid.0 else is_first gs f) all.0.mid
    ∙ ap (λ (m : Mid). if y.frame.0 == x.frame.0 then y.mid.0 == m.0 else is_first gs f) mid
    ∙ ap (λ (b : Bool). if y.frame.0 == x.frame.0 then y.mid.0 == x.mid.0 else b) (first_same owners gs ys f x all.1 mid frame)

-- one goes on both sides
pub but_fly : (owners : List Owner) (mid : Mid) (fs : List Flight) (xs : List Sent) → AllFly owners fs xs → AllFly owners (flights_but mid fs) (sent_but mid xs)
but_fly owners mid [] [] all = record {}
but_fly owners mid [] (x ∷ xs) all = absurd all
but_fly owners mid (f ∷ fs) [] all = absurd all
but_fly owners mid (f ∷ fs) (x ∷ xs) all =
    subst (λ (m : Mid). AllFly owners (cond (not (m.0 == mid.0)) (f ∷ flights_but mid fs) (flights_but mid fs))
    (cond (not (x.mid.0 == mid.0)) (x ∷ sent_but mid xs) (sent_but mid xs))) (sym all.0.mid)
    (by (x.mid.0 == mid.0) (but_fly owners mid fs xs all.1))
  where
    by : (t : Bool) → AllFly owners (flights_but mid fs) (sent_but mid xs)
        → AllFly owners (cond (not t) (f ∷ flights_but mid fs) (flights_but mid fs)) (cond (not t) (x ∷ sent_but mid xs) (sent_but mid xs))
    by true deeper = deeper
    by false deeper = (all.0, deeper)

-- a request is refused with the CREATE before it exactly where it is related to one that was refused
of_share : (creating related t : Bool) (w : Option WireRequest) (last : LastCreate) → IsOfShare creating related w → creating ≡ false ⊎ related ≡ false
    → (related && is_some (refusal_before last)) ≡ t
    → refused_as w last ≡ t
of_share creating related t None last of either is = absurd of
of_share creating related t (Some WireRequest.Aside) last of either is = absurd of
of_share creating related t (Some (WireRequest.Share r request)) last of either is =
    ap (λ (b : Bool). is_some (if b && not (is_creating request) then refusal_before last else None)) of.0
    ∙ ap (λ (b : Bool). is_some (if related && not b then refusal_before last else None)) of.1
    ∙ by related creating either ∙ is
  where
    by : (r c : Bool) → c ≡ false ⊎ r ≡ false → is_some (if r && not c then refusal_before last else None) ≡ (r && is_some (refusal_before last))
    by true true (inl is) = absurd (false≢true (sym is))
    by true true (inr is) = absurd (false≢true (sym is))
    by true false either = refl
    by false c either = refl

pub refused_is : (k : Kind) (related : Bool) (x : Sent) (last : LastCreate) → IsOfKind k related x
    → refused_as (wire_request x.message) last ≡ (related && is_some (refusal_before last))
refused_is kind.Open related x last of = of_share true related (related && is_some (refusal_before last)) (wire_request x.message) last of.1 (inr of.0) refl
refused_is kind.Query related x last of = of_share false related (related && is_some (refusal_before last)) (wire_request x.message) last of.0 (inl refl) refl
refused_is kind.Close related x last of = of_share false related (related && is_some (refusal_before last)) (wire_request x.message) last of.0 (inl refl) refl
refused_is kind.Aside related x last of =
    ap (λ (w : Option WireRequest). refused_as w last) of.1 ∙ sym (ap (λ (b : Bool). b && is_some (refusal_before last)) of.0)

-- what it asks for hangs on its message alone
pub kind_same : (k : Kind) (related : Bool) (x y : Sent) → y.message ≡ x.message → IsOfKind k related x → IsOfKind k related y
kind_same kind.Open related x y same of = subst (λ (m : List ℕ). IsOfKind kind.Open related (record y { message = m })) (sym same) of
kind_same kind.Query related x y same of = subst (λ (m : List ℕ). IsOfKind kind.Query related (record y { message = m })) (sym same) of
kind_same kind.Close related x y same of = subst (λ (m : List ℕ). IsOfKind kind.Close related (record y { message = m })) (sym same) of
kind_same kind.Aside related x y same of = subst (λ (m : List ℕ). IsOfKind kind.Aside related (record y { message = m })) (sym same) of

-- so it goes on both sides, once that CREATE came to something
behind_flies : (owners : List Owner) (frame : Mid) (last : LastCreate) (f : Flight) (x : Sent) → Flies owners f x
    → Flies owners (behind frame (is_some (refusal_before last)) f) (behind_create frame last x)
behind_flies owners frame last f x flies =
    subst (λ (m : Mid). Flies owners (if m.0 == frame.0 && f.related then record f { refused = is_some (refusal_before last) } else f)
    (behind_create frame last x)) (sym flies.frame)
    (by (x.frame.0 == frame.0) f.related refl)
  where
    by : (t r : Bool) → f.related ≡ r
        → Flies owners (if t && r then record f { refused = is_some (refusal_before last) } else f) (if t then record x { last_create = last } else x)
    by true true is = record {
      mid = flies.mid;
      frame = flies.frame;
      owner = flies.owner;
      kind = kind_same f.kind f.related x (record x { last_create = last }) refl flies.kind;
      refused = refused_is f.kind f.related x last flies.kind ∙ ap (λ (b : Bool). b && is_some (refusal_before last)) is;
    }
    by true false is = record {
      mid = flies.mid;
      frame = flies.frame;
      owner = flies.owner;
      kind = kind_same f.kind f.related x (record x { last_create = last }) refl flies.kind;
      refused = refused_is f.kind f.related x last flies.kind ∙ ap (λ (b : Bool). b && is_some (refusal_before last)) is
          ∙ sym (refused_is f.kind f.related x x.last_create flies.kind ∙ ap (λ (b : Bool). b && is_some (refusal_before x.last_create)) is) ∙ flies.refused;
    }
    by false r is = flies

pub behind_fly : (owners : List Owner) (frame : Mid) (last : LastCreate) (fs : List Flight) (xs : List Sent) → AllFly owners fs xs
    → AllFly owners (map (behind frame (is_some (refusal_before last))) fs) (map (behind_create frame last) xs)
behind_fly owners frame last [] [] all = record {}
behind_fly owners frame last [] (x ∷ xs) all = absurd all
behind_fly owners frame last (f ∷ fs) [] all = absurd all
behind_fly owners frame last (f ∷ fs) (x ∷ xs) all = (behind_flies owners frame last f x all.0, behind_fly owners frame last fs xs all.1)

-- a request is a CREATE by its kind
creates_by : (creating related : Bool) (w : Option WireRequest) → IsOfShare creating related w → creates_as w ≡ creating
creates_by creating related None of = absurd of
creates_by creating related (Some WireRequest.Aside) of = absurd of
creates_by creating related (Some (WireRequest.Share r request)) of = of.1

pub creates_is : (k : Kind) (related : Bool) (x : Sent) → IsOfKind k related x → creates x ≡ is_open k
creates_is kind.Open related x of = creates_by true related (wire_request x.message) of.1
creates_is kind.Query related x of = creates_by false related (wire_request x.message) of.0
creates_is kind.Close related x of = creates_by false related (wire_request x.message) of.0
creates_is kind.Aside related x of = ap creates_as of.1

came_is : (reply : Rep) (b : RepBody) → is_some (refusal_before (came_to reply b)) ≡ (if gives_open b then false else true)
came_is reply b = search rules

-- what is left of the requests in flight, on both sides
abbrev left_if : Bool → Mid → Mid → Bool → List Flight → List Flight
left_if creating mid frame given fs = if creating then map (behind frame (if given then false else true)) (flights_but mid fs) else flights_but mid fs

pub left_fly : (owners : List Owner) (f : Flight) (x : Sent) (reply : Rep) (fs : List Flight) (xs : List Sent) → Flies owners f x → AllFly owners fs xs
    → AllFly owners (flights_left f reply fs) (left_by x reply xs)
left_fly owners f x reply fs xs flies all =
    subst (λ (m : Mid). AllFly owners (left_if (is_open f.kind) m f.frame (gives_open reply.body) fs) (left_by x reply xs)) (sym flies.mid)
    (subst (λ (m : Mid). AllFly owners (left_if (is_open f.kind) x.mid m (gives_open reply.body) fs) (left_by x reply xs)) (sym flies.frame)
    (subst (λ (b : Bool). AllFly owners (left_if (is_open f.kind) x.mid x.frame (gives_open reply.body) fs)
    (if b then map (behind_create x.frame (came_to reply reply.body)) (sent_but x.mid xs) else sent_but x.mid xs))
    (sym (creates_is f.kind f.related x flies.kind))
    (by (is_open f.kind))))
  where
    by : (t : Bool) → AllFly owners (left_if t x.mid x.frame (gives_open reply.body) fs)
        (if t then map (behind_create x.frame (came_to reply reply.body)) (sent_but x.mid xs) else sent_but x.mid xs)
    by true =
        subst (λ (b : Bool). AllFly owners (map (behind x.frame b) (flights_but x.mid fs))
        (map (behind_create x.frame (came_to reply reply.body)) (sent_but x.mid xs))) (came_is reply reply.body)
        (behind_fly owners x.frame (came_to reply reply.body) (flights_but x.mid fs) (sent_but x.mid xs) (but_fly owners x.mid fs xs all))
    by false = but_fly owners x.mid fs xs all

-- a call is found on both sides and goes on
pub show_on : (options : Options) (n : ℕ) (g : Slot → Slot) (h : Item → Item) (ss : List Slot) (is : List Item)
    → ((s : Slot) (i : Item) → item_with n is ≡ Some i → Shows options s i → Shows options (g s) (h i)) → AllShow options ss is
    → AllShow options (on_slot n g ss) (on_item n h is)
show_on options n g h [] [] goes all = record {}
show_on options n g h [] (i ∷ is) goes all = absurd all
show_on options n g h (s ∷ ss) [] goes all = absurd all
show_on options n g h (s ∷ ss) (i ∷ is) goes all =
    subst (λ (m : ℕ). AllShow options (if m == n then g s ∷ ss else s ∷ on_slot n g ss) (if i.number == n then h i ∷ is else i ∷ on_item n h is))
    (sym all.0.number)
    (by (i.number == n) (goes s i) (λ past. show_on options n g h ss is (λ s' i' there. goes s' i' (past i' there)) all.1))
  where
    by : (t : Bool) → ((if t then Some i else item_with n is) ≡ Some i → Shows options s i → Shows options (g s) (h i))
        → (((i' : Item) → item_with n is ≡ Some i' → (if t then Some i else item_with n is) ≡ Some i') → AllShow options (on_slot n g ss) (on_item n h is))
        → AllShow options (if t then g s ∷ ss else s ∷ on_slot n g ss) (if t then h i ∷ is else i ∷ on_item n h is)
    by true mine others = (mine refl all.0, all.1)
    by false mine others = (all.0, others (λ i' there. there))

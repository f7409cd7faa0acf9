-- A reply to a request of a call lands in the core as it does in the client: at its turn, with those that waited for it, or it waits.
use Rattle.std.proofs.Common.{◌≡◌, ◌∙◌, refl, sym, ap, subst, ℕ, zero, suc, Bool, true, false, if◌then◌else◌, List, [], ◌∷◌, ◌++◌, length, Option, Some, None}
use Rattle.std.specs.Prelude.{IsSomeAnd}
use Rattle.std.specs.List.{AllByRecursion}
use Rattle.smb_base.specs.declared.names.Mid.{Mid}
use Rattle.fs_types.specs.declared.options.Options.{Options}
use Rattle.share_state.specs.declared.connection.Sent.{Sent}
use Rattle.share_state.specs.declared.request.Rep.{Rep}
use Rattle.share_state.specs.Sent.{sent_with}
use Rattle.fs_plain.specs.Owners.{Owner}
use Rattle.fs_plain.specs.World.{is_first_of_frame}
use Rattle.fs_client.specs.View.{View}
use Rattle.fs_client.specs.Asked.{fits}
use Rattle.fs_client.specs.Looks.{early_but, went, if_first, in_turn, drained_with, drained, landed_by}
use Rattle.fs_client.specs.Sane.{IsEarly, Sane}
use Rattle.fs_client.proofs.Landing.{InTurn, found_at, went_sane}
use Rattle.fs_core.specs.declared.flight.Flight.{Flight}
use Rattle.fs_core.specs.Kept.{Kept}
use Rattle.fs_core.specs.Fits.{AllShow, Flies, AllFly}
use Rattle.fs_core.specs.Parts.{flight_with, held_but}
use Rattle.fs_core.specs.Steps.{gone, turn_if, next_turn, turned_with, turned, landed}
use Rattle.fs_core.proofs.LandingLists.{SameFound, found_same, first_same, left_fly}
use Rattle.fs_core.proofs.LandingCalls.{slots_go}

-- what looking at replies keeps: the calls, the requests in flight, and the replies that wait for their turn
pub record Walks (options : Options) (k : Kept) (v : View) : Type 0 where
  pub slots : AllShow options k.slots v.items
  pub flights : AllFly v.told.owners k.flights v.flights
  pub early : k.early ≡ v.early

-- a request is answered, in its turn
pub went_walks : (options : Options) (k : Kept) (v : View) (f : Flight) (x : Sent) (reply : Rep) → Sane v → Walks options k v → Flies v.told.owners f x
    → InTurn v.flights x reply
    → Walks options (gone options f reply k) (went x reply v)
went_walks options k v f x reply sane walks flies turn = record {
  slots = slots_go options v f x reply k.slots sane turn flies walks.slots;
  flights = left_fly v.told.owners f x reply k.flights v.flights flies walks.flights;
  early = ap (λ (m : Mid). held_but m k.early) flies.mid ∙ ap (early_but x.mid) walks.early;
}

-- whose turn it is, on both sides
abbrev pub SameTurn : List Owner → List Sent → Option (Flight × Rep) → Option (Sent × Rep) → Type 0
SameTurn owners xs None None = Unit {0}
SameTurn owners xs None (Some b) = ⊥
SameTurn owners xs (Some a) None = ⊥
SameTurn owners xs (Some a) (Some b) = Flies owners a.0 b.0 × (a.1 ≡ b.1) × InTurn xs b.0 b.1

turn_same : (owners : List Owner) (fs : List Flight) (xs : List Sent) (early : List (Mid × Rep)) → AllFly owners fs xs → AllByRecursion (IsEarly xs) early
    → SameTurn owners xs (next_turn fs early) (in_turn xs early)
turn_same owners fs xs [] all waits = record {}
turn_same owners fs xs (e ∷ early) all waits =
    by (flight_with e.0 fs) (sent_with e.0 xs) refl (found_same owners e.0 fs xs all) waits.0 (turn_same owners fs xs early all waits.1)
  where
    first : (f : Flight) (x : Sent) → sent_with e.0 xs ≡ Some x → Flies owners f x → fits x e.1 ≡ true
        → SameTurn owners xs (next_turn fs early) (in_turn xs early)
        → (t : Bool) → is_first_of_frame xs x ≡ t
        → SameTurn owners xs (if t then Some (f, e.1) else next_turn fs early) (if t then Some (x, e.1) else in_turn xs early)
    first f x there flies fit deeper true is = (flies, refl, record { there = found_at e.0 xs x there; first = is; fit = fit })
    first f x there flies fit deeper false is = deeper

    by : (o : Option Flight) (p : Option Sent) → sent_with e.0 xs ≡ p → SameFound owners o p → IsSomeAnd p (λ x. fits x e.1 ≡ true)
        → SameTurn owners xs (next_turn fs early) (in_turn xs early)
        → SameTurn owners xs (turn_if o fs e.1 (next_turn fs early)) (if_first p xs e.1 (in_turn xs early))
    by None None there same fit deeper = deeper
    by None (Some x) there same fit deeper = absurd same
    by (Some f) None there same fit deeper = absurd same
    by (Some f) (Some x) there same fit deeper =
        subst (λ (b : Bool). SameTurn owners xs (if b then Some (f, e.1) else next_turn fs early)
        (if is_first_of_frame xs x then Some (x, e.1) else in_turn xs early))
        (sym (first_same owners fs xs f x all same.mid same.frame))
        (first f x there same fit deeper (is_first_of_frame xs x) refl)

-- those that waited for their turn
pub turned_walks : (options : Options) (n : ℕ) (k : Kept) (v : View) → Sane v → Walks options k v → Walks options (turned options n k) (drained n v)
turned_walks options zero k v sane walks = walks
turned_walks options (suc n) k v sane walks =
    subst (λ (early : List (Mid × Rep)). Walks options (turned_with options (next_turn k.flights early) (turned options n) k) (drained (suc n) v))
    (sym walks.early)
    (by (next_turn k.flights v.early) (in_turn v.flights v.early) (turn_same v.told.owners k.flights v.flights v.early walks.flights sane.early)
    (λ k' v' sane' walks'. turned_walks options n k' v' sane' walks'))
  where
    by : (o : Option (Flight × Rep)) (p : Option (Sent × Rep)) → SameTurn v.told.owners v.flights o p
        → ((k' : Kept) (v' : View) → Sane v' → Walks options k' v' → Walks options (turned options n k') (drained n v'))
        → Walks options (turned_with options o (turned options n) k) (drained_with p (drained n) v)
    by None None same others = walks
    by None (Some b) same others = absurd same
    by (Some a) None same others = absurd same
    by (Some a) (Some b) same others =
        subst (λ (r : Rep). Walks options (turned options n (gone options a.0 r k)) (drained n (went b.0 b.1 v))) (sym same.1)
        (others (gone options a.0 b.1 k) (went b.0 b.1 v) (went_sane v b.0 b.1 sane same.2.there same.2.first same.2.fit)
        (went_walks options k v a.0 b.0 b.1 sane walks same.0 same.2))

-- a reply to a request in flight
pub landed_walks : (options : Options) (k : Kept) (v : View) (f : Flight) (x : Sent) (reply : Rep) → Sane v → Walks options k v → Flies v.told.owners f x
    → sent_with x.mid v.flights ≡ Some x → fits x reply ≡ true → Walks options (landed options f reply k) (landed_by (Some x) reply v)
landed_walks options k v f x reply sane walks flies there fit =
    subst (λ (b : Bool). Walks options (if b then turned options (length k.early) (gone options f reply k)
    else record k { early = k.early ++ (f.mid, reply) ∷ [] })
    (landed_by (Some x) reply v))
    (sym (first_same v.told.owners k.flights v.flights f x walks.flights flies.mid flies.frame))
    (by (is_first_of_frame v.flights x) refl)
  where
    by : (t : Bool) → is_first_of_frame v.flights x ≡ t
        → Walks options (if t then turned options (length k.early) (gone options f reply k) else record k { early = k.early ++ (f.mid, reply) ∷ [] })
        (if t then drained (length v.early) (went x reply v) else record v { early = v.early ++ (x.mid, reply) ∷ [] })
    by true is =
        subst (λ (early : List (Mid × Rep)). Walks options (turned options (length early) (gone options f reply k)) (drained (length v.early) (went x reply v)))
        (sym walks.early)
        (turned_walks options (length v.early) (gone options f reply k) (went x reply v) (went_sane v x reply sane there is fit)
        (went_walks options k v f x reply sane walks flies (record { there = there; first = is; fit = fit })))
    by false is = record {
      slots = walks.slots;
      flights = walks.flights;
      early = ap (λ (early : List (Mid × Rep)). early ++ (f.mid, reply) ∷ []) walks.early ∙ ap (λ (m : Mid). v.early ++ (m, reply) ∷ []) flies.mid;
    }

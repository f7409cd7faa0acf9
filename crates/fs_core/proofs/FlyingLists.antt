-- What the core keeps of calls and of requests in flight, once a frame is sent, is what the client has then.
use Rattle.std.proofs.Common.{arith, ◌≡◌, ◌∙◌, refl, sym, ap, subst, ℕ, suc, ◌+◌, ◌-◌, ◌^◌, ◌==◌, ◌<◌, ◌≤◌, min, Bool, true, false, cond, if◌then◌else◌, not, List, [], ◌∷◌, ◌++◌, length, Option, Some, None, Result, Ok}
use Rattle.std.specs.Prelude.{IsSomeAnd, map, filter, option_map, ◌&&◌, ◌||◌, is_some}
use Rattle.std.specs.List.{AllByRecursion}
use Rattle.std.proofs.lemmas.Bool.Decides.{nat_tests}
use Rattle.smb_base.specs.declared.names.Mid.{Mid}
use Rattle.smb_chain.specs.declared.parts.BadNext.{BadNext}
use Rattle.smb_credit.specs.Window.{no_request}
use Rattle.fs_types.specs.declared.options.Options.{Options}
use Rattle.share_state.specs.declared.connection.LastCreate.TheVariants as last
use Rattle.share_state.specs.declared.connection.Sent.{Sent}
use Rattle.share_state.specs.declared.request.Rep.{Rep}
use Rattle.share_state.specs.Sent.{sent_with}
use Rattle.smb_link.specs.Program.{Known}
use Rattle.fs_plain.specs.Owners.{Owner, owner_of}
use Rattle.fs_plain.specs.Requests.{WireRequest, wire_request}
use Rattle.fs_plain.specs.World.{waiting, is_creating, refusal_before}
use Rattle.fs_client.specs.Item.{Item, on_item, spoken_for, flown}
use Rattle.fs_client.specs.After.{cost_of}
use Rattle.fs_client.specs.Asked.{is_refused, refused_as, fits}
use Rattle.fs_client.specs.Looks.{is_early}
use Rattle.fs_client.specs.Sane.{IsApart, AreApart, IsSent, IsEarly}
use Rattle.fs_client.specs.Spelled.{AreNext}
use Rattle.fs_client.proofs.Lists.{all_more, found}
use Rattle.fs_client.proofs.Ids.{flight_of}
use Rattle.fs_core.specs.declared.flight.Flight.{Flight}
use Rattle.fs_core.specs.declared.flight.Kind.{Kind}
use Rattle.fs_core.specs.declared.slot.Slot.{Slot}
use Rattle.fs_core.specs.Parts.{on_slot}
use Rattle.fs_core.specs.Fits.{Shows, AllShow, IsOfKind, AllFly}
use Rattle.fs_core.specs.Steps.{id_behind, flights_from, spoken}

-- calls with another number are not spoken of
unspoken : (number : ℕ) (items : List Item) → AllByRecursion (λ (j : Item). (j.number == number) ≡ false) items → map (spoken_for number) items ≡ items
unspoken number [] all = refl
unspoken number (j ∷ js) all =
    ap (λ (b : Bool). (if b then record j { announced = true } else j) ∷ map (spoken_for number) js) all.0
    ∙ ap (λ (l : List Item). j ∷ l) (unspoken number js all.1)

-- a call that sends a frame shows the one that has sent it
spoken_shows : (options : Options) (s : Slot) (i : Item) (frame : Mid) (known : Known) → Shows options s i
    → Shows options (spoken s) (flown frame known (record i { announced = true }))
spoken_shows options s i frame known shows = record {
  number = shows.number;
  lane = shows.lane;
  announced = refl;
  whole = shows.whole;
  stat = shows.stat;
  rest = shows.rest;
  opened = shows.opened;
  first = λ is. absurd (cc);
  unsent = λ is. absurd (cc);
}

pub slots_sent : (options : Options) (number : ℕ) (frame : Mid) (known : Known) (slots : List Slot) (items : List Item) → AreApart items
    → AllShow options slots items
    → AllShow options (on_slot number spoken slots) (on_item number (flown frame known) (map (spoken_for number) items))
slots_sent options number frame known [] [] apart all = all
slots_sent options number frame known [] (i ∷ is) apart all = absurd all
slots_sent options number frame known (s ∷ ss) [] apart all = absurd all
slots_sent options number frame known (s ∷ ss) (i ∷ is) apart all =
    subst (λ (n : ℕ). AllShow options (if n == number then spoken s ∷ ss else s ∷ on_slot number spoken ss)
    (on_item number (flown frame known) (map (spoken_for number) (i ∷ is))))
    (sym all.0.number) (by (i.number == number) refl (slots_sent options number frame known ss is apart.1 all.1))
  where
    by : (t : Bool) → (i.number == number) ≡ t → AllShow options (on_slot number spoken ss) (on_item number (flown frame known) (map (spoken_for number) is))
        → AllShow options (if t then spoken s ∷ ss else s ∷ on_slot number spoken ss)
        (on_item number (flown frame known) ((if t then record i { announced = true } else i) ∷ map (spoken_for number) is))
    by true here deeper =
        subst (λ (b : Bool). AllShow options (spoken s ∷ ss)
        (if b then flown frame known (record i { announced = true }) ∷ map (spoken_for number) is else record i { announced = true }
        ∷ on_item number (flown frame known) (map (spoken_for number) is)))
        (sym here) (
          spoken_shows options s i frame known all.0,
          subst (λ (l : List Item). AllShow options ss l)
              (sym (unspoken number is (all_more (IsApart i) (λ (j : Item). (j.number == number) ≡ false) is (λ j a. other j.number a.0 here) apart.0))) all.1,
        )
      where
        other : (n : ℕ) → (n == i.number) ≡ false → (i.number == number) ≡ true → (n == number) ≡ false
        other n far same = grind (arith, nat_tests)
    by false here deeper =
        subst (λ (b : Bool). AllShow options (s ∷ on_slot number spoken ss)
        (if b then flown frame known i ∷ map (spoken_for number) is else i ∷ on_item number (flown frame known) (map (spoken_for number) is)))
        (sym here) (all.0, deeper)

-- requests that were in flight keep their owners
pub flights_kept : (owners owners' : List Owner) (fs : List Flight) (xs : List Sent)
    → AllByRecursion (λ (x : Sent). owner_of x.mid owners' ≡ owner_of x.mid owners) xs → AllFly owners fs xs → AllFly owners' fs xs
flights_kept owners owners' [] [] same all = all
flights_kept owners owners' [] (x ∷ xs) same all = absurd all
flights_kept owners owners' (f ∷ fs) [] same all = absurd all
flights_kept owners owners' (f ∷ fs) (x ∷ xs) same all = (
  record {
    mid = all.0.mid;
    frame = all.0.frame;
    owner = ap (option_map (λ (o : Owner). o.number)) same.0 ∙ all.0.owner;
    kind = all.0.kind;
    refused = all.0.refused;
  },
  flights_kept owners owners' fs xs same.1 all.1,
)

pub flights_append : (owners : List Owner) (fs gs : List Flight) (xs ys : List Sent) → AllFly owners fs xs → AllFly owners gs ys
    → AllFly owners (fs ++ gs) (xs ++ ys)
flights_append owners [] gs [] ys all more = more
flights_append owners [] gs (x ∷ xs) ys all more = absurd all
flights_append owners (f ∷ fs) gs [] ys all more = absurd all
flights_append owners (f ∷ fs) gs (x ∷ xs) ys all more = (all.0, flights_append owners fs gs xs ys all.1 more)

-- messages of these kinds, wherever they stand, which cost one id each
pub record IsPart (k : Kind × Bool) (m : List ℕ) : Type 0 where
  pub kind : (frame : Mid) → IsOfKind k.0 k.1 (waiting frame m)
  pub one : cost_of m ≡ 1

abbrev pub AreParts : List (Kind × Bool) → List (List ℕ) → Type 0
AreParts [] [] = Unit {0}
AreParts [] (m ∷ ms) = ⊥
AreParts (k ∷ ks) [] = ⊥
AreParts (k ∷ ks) (m ∷ ms) = IsPart k m × AreParts ks ms

-- a request that is sent is refused by nothing
pub fresh : (frame : Mid) (m : List ℕ) → is_refused (waiting frame m) ≡ false
fresh frame m = by (wire_request m)
  where
    neither : (t : Bool) → is_some (if t then refusal_before last.Nothing else None) ≡ false
    neither true = refl
    neither false = refl

    by : (w : Option WireRequest) → refused_as w last.Nothing ≡ false
    by None = refl
    by (Some WireRequest.Aside) = refl
    by (Some (WireRequest.Share related request)) = neither (related && not (is_creating request))

pub flights_new : (owners : List Owner) (owner : Option ℕ) (frame : Mid) (kinds : List (Kind × Bool)) (ms : List (List ℕ)) (id : ℕ) → AreParts kinds ms
    → AreNext id (map {B = Result (List ℕ) BadNext} (λ (part : List ℕ). Ok part) ms) → id + length ms ≤ no_request
    → AllByRecursion (λ (x : Sent). option_map (λ (o : Owner). o.number) (owner_of x.mid owners) ≡ owner) (map (waiting frame) ms)
    → AllFly owners (flights_from owner frame id kinds) (map (waiting frame) ms)
flights_new owners owner frame [] [] id parts next room owned = record {}
flights_new owners owner frame [] (m ∷ ms) id parts next room owned = absurd parts
flights_new owners owner frame (k ∷ ks) [] id parts next room owned = absurd parts
flights_new owners owner frame (k ∷ ks) (m ∷ ms) id parts next room owned = (
  record {
    mid = ap (λ (n : ℕ). the n) (sym next.0);
    frame = refl;
    owner = owned.0;
    kind = parts.0.kind frame;
    refused = fresh frame m;
  },
  flights_new owners owner frame ks ms (id_behind id) parts.1
      (subst (λ (n : ℕ). AreNext n (map {B = Result (List ℕ) BadNext} (λ (part : List ℕ). Ok part) ms))
      (sym (behind id (cost_of m) (length ms) parts.0.one room)) next.2)
      (left id (length ms) room) owned.1,
)
  where
    the : ℕ → Mid
    the n = record { 0 = n }

    behind : (a c n : ℕ) → c ≡ 1 → a + suc n ≤ no_request → min (a + 1) (2 ^ 64 - 1) ≡ a + c
    behind a c n one le = omega (arith, one, le)

    left : (a n : ℕ) → a + suc n ≤ no_request → min (a + 1) (2 ^ 64 - 1) + n ≤ no_request
    left a n le = omega (arith, le)

-- a reply that waits for its turn is to a request that was in flight
pub none_early : (next : ℕ) (flights : List Sent) (early : List (Mid × Rep)) → AllByRecursion (IsSent next) flights → AllByRecursion (IsEarly flights) early
    → (m : Mid) → next ≤ m.0 → is_early m early ≡ false
none_early next flights [] sent all m le = refl
none_early next flights (e ∷ es) sent all m le =
    ap (λ (b : Bool). b || is_early m es) (by (sent_with e.0 flights) refl all.0) ∙ none_early next flights es sent all.1 m le
  where
    apart : (a b : ℕ) → b < next → b ≡ a → next ≤ m.0 → (a == m.0) ≡ false
    apart a b less is le = grind (arith, nat_tests)

    by : (o : Option Sent) → sent_with e.0 flights ≡ o → IsSomeAnd o (λ x. fits x e.1 ≡ true) → (e.0.0 == m.0) ≡ false
    by None there fit = absurd fit
    by (Some x) there fit = let at = found (IsSent next) e.0 flights x there sent in apart e.0.0 x.mid.0 at.0.0 at.1 le

-- what is awaited once requests are in flight behind others
abbrev pub unread : List (Mid × Rep) → Sent → Bool
unread early x = not (is_early x.mid early)

awaited_new : (early : List (Mid × Rep)) (ys : List Sent) → AllByRecursion (λ (y : Sent). is_early y.mid early ≡ false) ys
    → map flight_of (filter (unread early) ys) ≡ map flight_of ys
awaited_new early [] all = refl
awaited_new early (y ∷ ys) all =
    ap (λ (b : Bool). map flight_of (cond (not b) (y ∷ filter (unread early) ys) (filter (unread early) ys))) all.0
    ∙ ap (λ (l : List (ℕ × ℕ)). flight_of y ∷ l) (awaited_new early ys all.1)

pub awaited_append : (early : List (Mid × Rep)) (xs ys : List Sent) → AllByRecursion (λ (y : Sent). is_early y.mid early ≡ false) ys
    → map flight_of (filter (unread early) (xs ++ ys)) ≡ map flight_of (filter (unread early) xs) ++ map flight_of ys
awaited_append early [] ys all = awaited_new early ys all
awaited_append early (x ∷ xs) ys all = by (unread early x) (awaited_append early xs ys all)
  where
    by : (t : Bool) → map flight_of (filter (unread early) (xs ++ ys)) ≡ map flight_of (filter (unread early) xs) ++ map flight_of ys
        → map flight_of (cond t (x ∷ filter (unread early) (xs ++ ys)) (filter (unread early) (xs ++ ys)))
        ≡ map flight_of (cond t (x ∷ filter (unread early) xs) (filter (unread early) xs)) ++ map flight_of ys
    by true deeper = ap (λ (l : List (ℕ × ℕ)). flight_of x ∷ l) deeper
    by false deeper = deeper

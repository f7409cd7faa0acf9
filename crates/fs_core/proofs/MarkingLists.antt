-- The calls of the core and those of the client, one for one, and the requests in flight likewise: what is found, what is left out.
use Rattle.std.proofs.Common.{rules, ◌≡◌, ◌∙◌, refl, sym, ap, subst, ℕ, ◌==◌, Bool, true, false, cond, if◌then◌else◌, not, List, [], ◌∷◌, ◌++◌, Option, Some, None, inl, inr}
use Rattle.std.specs.Prelude.{IsSomeAnd, option_map, ◌||◌}
use Rattle.std.specs.List.{AllByRecursion, list_any}
use Rattle.std.proofs.lemmas.Bool.{false≢true}
use Rattle.std.proofs.lemmas.Bool.Decides.{eqb_tells}
use Rattle.smb_base.specs.declared.names.Mid.{Mid}
use Rattle.fs_types.specs.declared.options.Options.{Options}
use Rattle.share_state.specs.declared.connection.Sent.{Sent}
use Rattle.fs_plain.specs.Owners.{Owner, owner_of}
use Rattle.fs_client.specs.Item.{Item, item_with, items_but}
use Rattle.fs_client.specs.View.{View}
use Rattle.fs_client.specs.Flies.{IsElsewhere, IsIdle}
use Rattle.fs_client.specs.Sane.{IsNotFrom, IsFrom, IsOwnedBy, IsOwned, IsApart, AreApart, Sane}
use Rattle.fs_client.proofs.Lists.{none_some, some_is, all_more, item_found}
use Rattle.fs_core.specs.declared.flight.Flight.{Flight}
use Rattle.fs_core.specs.declared.slot.Slot.{Slot}
use Rattle.fs_core.specs.Kept.{Kept}
use Rattle.fs_core.specs.Parts.{slot_with, slots_but, is_number, is_idle}
use Rattle.fs_core.specs.Fits.{Shows, AllShow, Flies, AllFly}

-- where the one has nothing, the other has nothing
pub no_call : (options : Options) (slots : List Slot) (items : List Item) → AllShow options slots items → slots ≡ [] → items ≡ []
no_call options slots [] all none = refl
no_call options slots (i ∷ is) all none = absurd (subst (λ (ss : List Slot). AllShow options ss (i ∷ is)) none all)

pub no_slot : (options : Options) (slots : List Slot) (items : List Item) → AllShow options slots items → items ≡ [] → slots ≡ []
no_slot options [] items all none = refl
no_slot options (s ∷ ss) items all none = absurd (subst (AllShow options (s ∷ ss)) none all)

pub no_sent : (owners : List Owner) (flights : List Flight) (xs : List Sent) → AllFly owners flights xs → flights ≡ [] → xs ≡ []
no_sent owners flights [] all none = refl
no_sent owners flights (x ∷ xs) all none = absurd (subst (λ (fs : List Flight). AllFly owners fs (x ∷ xs)) none all)

pub no_flight : (owners : List Owner) (flights : List Flight) (xs : List Sent) → AllFly owners flights xs → xs ≡ [] → flights ≡ []
no_flight owners [] xs all none = refl
no_flight owners (f ∷ fs) xs all none = absurd (subst (AllFly owners (f ∷ fs)) none all)

-- the call that the core finds is the one that the client finds
pub record Shown (options : Options) (number : ℕ) (s : Slot) (items : List Item) : Type 0 where
  pub item : Item
  pub runs : item_with number items ≡ Some item
  pub shows : Shows options s item

pub slot_shown : (options : Options) (number : ℕ) (slots : List Slot) (items : List Item) (s : Slot) → AllShow options slots items
    → slot_with number slots ≡ Some s
    → Shown options number s items
slot_shown options number [] [] s all there = absurd (none_some s there)
slot_shown options number [] (i ∷ is) s all there = absurd all
slot_shown options number (t ∷ ts) [] s all there = absurd all
slot_shown options number (t ∷ ts) (i ∷ items) s all there = by (t.number == number) refl there (slot_shown options number ts items s all.1)
  where
    found : (b : Bool) → (t.number == number) ≡ b → item_with number (i ∷ items) ≡ (if b then Some i else item_with number items)
    found b is = ap (λ (n : ℕ). if n == number then Some i else item_with number items) (sym all.0.number)
        ∙ ap (λ (c : Bool). if c then Some i else item_with number items) is

    by : (b : Bool) → (t.number == number) ≡ b → (if b then Some t else slot_with number ts) ≡ Some s
        → (slot_with number ts ≡ Some s → Shown options number s items)
        → Shown options number s (i ∷ items)
    by true is there deeper = record { item = i; runs = found true is; shows = subst (λ (z : Slot). Shows options z i) (some_is t s there) all.0 }
    by false is there deeper =
        let d = deeper there in
        record { item = d.item; runs = found false is ∙ d.runs; shows = d.shows }

-- one more call, and all but one
pub shown_append : (options : Options) (slots : List Slot) (items : List Item) (s : Slot) (i : Item) → AllShow options slots items → Shows options s i
    → AllShow options (slots ++ s ∷ []) (items ++ i ∷ [])
shown_append options [] [] s i all shows = (shows, record {})
shown_append options [] (j ∷ js) s i all shows = absurd all
shown_append options (t ∷ ts) [] s i all shows = absurd all
shown_append options (t ∷ ts) (j ∷ js) s i all shows = (all.0, shown_append options ts js s i all.1 shows)

pub shown_but : (options : Options) (number : ℕ) (slots : List Slot) (items : List Item) → AllShow options slots items
    → AllShow options (slots_but number slots) (items_but number items)
shown_but options number [] [] all = all
shown_but options number [] (i ∷ is) all = absurd all
shown_but options number (s ∷ ss) [] all = absurd all
shown_but options number (s ∷ ss) (i ∷ is) all =
    subst (λ (n : ℕ). AllShow options (slots_but number (s ∷ ss)) (cond (not (n == number)) (i ∷ items_but number is) (items_but number is))) all.0.number
    (by (s.number == number) (shown_but options number ss is all.1))
  where
    by : (t : Bool) → AllShow options (slots_but number ss) (items_but number is)
        → AllShow options (cond (not t) (s ∷ slots_but number ss) (slots_but number ss)) (cond (not t) (i ∷ items_but number is) (items_but number is))
    by true deeper = deeper
    by false deeper = (all.0, deeper)

-- a lane is free for the one where it is for the other
pub lane_shown : (options : Options) (lane : ℕ) (slots : List Slot) (items : List Item) → AllShow options slots items
    → list_any (λ (s : Slot). s.lane == lane) slots ≡ list_any (λ (i : Item). i.lane == lane) items
lane_shown options lane [] [] all = refl
lane_shown options lane [] (i ∷ is) all = absurd all
lane_shown options lane (s ∷ ss) [] all = absurd all
lane_shown options lane (s ∷ ss) (i ∷ is) all =
    ap (λ (n : ℕ). n == lane || list_any (λ (t : Slot). t.lane == lane) ss) all.0.lane
    ∙ ap (λ (b : Bool). i.lane == lane || b) (lane_shown options lane ss is all.1)

-- two calls have two frames
pub other_frames : (n m : ℕ) (items : List Item) (i j : Item) (frame : Mid) → AreApart items → item_with n items ≡ Some i → item_with m items ≡ Some j
    → (n == m) ≡ false
    → i.frame ≡ Some frame → j.frame ≡ Some frame → ⊥
other_frames n m [] i j frame apart here there other from from' = none_some i here
other_frames n m (k ∷ ks) i j frame apart here there other from from' =
    by (k.number == n) refl here (k.number == m) refl there (λ here there. other_frames n m ks i j frame apart.1 here there other from from')
  where
    both : (a : ℕ) → (a == n) ≡ true → (a == m) ≡ true → (n == m) ≡ true
    both a one two = search rules

    by : (b : Bool) → (k.number == n) ≡ b → (if b then Some k else item_with n ks) ≡ Some i
        → (d : Bool) → (k.number == m) ≡ d → (if d then Some k else item_with m ks) ≡ Some j
        → (item_with n ks ≡ Some i → item_with m ks ≡ Some j → ⊥) → ⊥
    by true one here true two there deeper = false≢true (sym other ∙ both k.number one two)
    by true one here false two there deeper =
        (item_found (IsApart k) m ks j there apart.0).0.1 frame (ap (λ (l : Item). l.frame) (some_is k i here) ∙ from) from'
    by false one here true two there deeper =
        (item_found (IsApart k) n ks i here apart.0).0.1 frame (ap (λ (l : Item). l.frame) (some_is k j there) ∙ from') from
    by false one here false two there deeper = deeper here there

-- a call of which the core has nothing in flight has nothing in flight
pub record Idles (options : Options) (number : ℕ) (s : Slot) (v : View) : Type 0 where
  pub item : Item
  pub runs : item_with number v.items ≡ Some item
  pub shows : Shows options s item
  pub idle : IsIdle item.frame v.flights

-- a request that the core has as another's is not in the call's frame
not_from : (owners : List Owner) (number : ℕ) (items : List Item) (i : Item) (f : Flight) (x : Sent) → AreApart items → item_with number items ≡ Some i
    → Flies owners f x
    → is_number number f.owner ≡ false → IsOwned items owners x → i.frame ≡ Some x.frame → ⊥
not_from owners number items i f x apart runs flies far own from = by (owner_of x.mid owners) refl own
  where
    with : (o : Owner) → (o.number == number) ≡ false → (p : Option Item) → item_with o.number items ≡ p → IsSomeAnd p (IsFrom o x) → ⊥
    with o other None there own = own
    with o other (Some j) there own = other_frames o.number number items j i x.frame apart there runs other own.frame from

    at : (o : Owner) → owner_of x.mid owners ≡ Some o → is_number number f.owner ≡ (o.number == number)
    at o is = ap (is_number number) (sym flies.owner ∙ ap (option_map (λ (p : Owner). p.number)) is)

    by : (o : Option Owner) → owner_of x.mid owners ≡ o → IsOwnedBy o items x → ⊥
    by None is own = (item_found (IsNotFrom x.frame) number items i runs own.elsewhere).0 from
    by (Some o) is own = with o (sym (at o is) ∙ far) (item_with o.number items) refl own

none_from : (owners : List Owner) (number : ℕ) (items : List Item) (i : Item) (flights : List Flight) (xs : List Sent) → AreApart items
    → item_with number items ≡ Some i
    → AllFly owners flights xs → is_idle number flights ≡ true → AllByRecursion (IsOwned items owners) xs
    → AllByRecursion (λ (x : Sent). i.frame ≡ Some x.frame → ⊥) xs
none_from owners number items i [] [] apart runs all idle own = tt
none_from owners number items i [] (x ∷ xs) apart runs all idle own = absurd all
none_from owners number items i (f ∷ fs) [] apart runs all idle own = absurd all
none_from owners number items i (f ∷ fs) (x ∷ xs) apart runs all idle own =
    let both = apart_tests (is_number number f.owner) (list_any (λ (g : Flight). is_number number g.owner) fs) idle in (
      not_from owners number items i f x apart runs all.0 both.0 own.0,
      none_from owners number items i fs xs apart runs all.1 both.1 own.1,
    )
  where
    apart_tests : (a b : Bool) → not (a || b) ≡ true → (a ≡ false) × (not b ≡ true)
    apart_tests true b is = absurd (false≢true is)
    apart_tests false b is = (refl, is)

idle_by : (o : Option Mid) (xs : List Sent) → AllByRecursion (λ (x : Sent). o ≡ Some x.frame → ⊥) xs → IsIdle o xs
idle_by None xs away = record {}
idle_by (Some frame) xs away = all_more (λ (x : Sent). Some frame ≡ Some x.frame → ⊥) (IsElsewhere frame) xs (λ x far. each x far) away
  where
    each : (x : Sent) → (Some frame ≡ Some x.frame → ⊥) → (x.frame.0 == frame.0) ≡ false
    each x far = elim (eqb_tells x.frame.0 frame.0) [
      | inl told ↦ absurd (far (ap (λ (n : ℕ). Some (the n)) (sym told.1)))
      | inr told ↦ told.0
    ]
      where
        the : ℕ → Mid
        the n = record { 0 = n }

pub idle_is : (options : Options) (number : ℕ) (s : Slot) (k : Kept) (v : View) → Sane v → AllShow options k.slots v.items
    → AllFly v.told.owners k.flights v.flights
    → slot_with number k.slots ≡ Some s → is_idle number k.flights ≡ true → Idles options number s v
idle_is options number s k v sane shows flies there idle =
    let shown = slot_shown options number k.slots v.items s shows there in
    record {
      item = shown.item;
      runs = shown.runs;
      shows = shown.shows;
      idle = idle_by shown.item.frame v.flights
          (none_from v.told.owners number v.items shown.item k.flights v.flights sane.apart shown.runs flies idle sane.owned);
    }

-- A frame is sent, of a call or of no call: what holds of the client holds on.
use Rattle.std.proofs.Common.{arith, ◌≡◌, ◌∙◌, refl, sym, ap, subst, ℕ, ◌+◌, ◌==◌, ◌<◌, ◌≤◌, Bool, true, false, if◌then◌else◌, List, [], ◌∷◌, ◌++◌, length, take, Option, Some, None, Result, Ok, Err, append-nil}
use Rattle.std.specs.Prelude.{IsSomeAnd, map, filter, option_map}
use Rattle.std.specs.List.{AllByRecursion}
use Rattle.std.proofs.lemmas.Bool.Decides.{nat_tests}
use Rattle.smb_base.specs.declared.names.Mid.{Mid}
use Rattle.smb_chain.specs.declared.parts.BadNext.{BadNext}
use Rattle.share_state.specs.declared.connection.Sent.{Sent}
use Rattle.share_state.specs.declared.request.Rep.{Rep}
use Rattle.fs_plain.specs.Owners.{mids_among, mids_in, from, Owner, owner_of}
use Rattle.fs_plain.specs.Requests.{WireRequest, wire_request}
use Rattle.share_state.specs.Sent.{sent_with}
use Rattle.fs_plain.specs.World.{requests_in}
use Rattle.fs_plain.specs.Told.{Announcement, owned_in, is_outside}
use Rattle.fs_client.specs.Item.{Item, item_with, on_item, flown}
use Rattle.fs_client.specs.View.{View}
use Rattle.fs_client.specs.After.{parts_sent, frame_of, costs_among, items_sent}
use Rattle.fs_client.specs.Asked.{fits}
use Rattle.fs_client.specs.Flies.{FliesAs, files_of, FliesFrom, IsIdle}
use Rattle.fs_client.specs.Spelled.{AreNext}
use Rattle.fs_client.specs.Sane.{IsNotFrom, IsFrom, IsOwnedBy, IsOwned, IsUsed, IsApart, AreApart, IsSent, AreRising, IsEarly, IsBegun, FliesIn, Sane}
use Rattle.fs_client.proofs.Lists.{none_some, some_is, all_more, all_both, all_append, all_on, found_append, item_on, item_on_it}
use Rattle.fs_client.proofs.Flights.{flies_append, flies_behind}
use Rattle.fs_client.proofs.Frames.{first_next, some_used, IsOf, are_of, rise, rising_append, is_in, not_in, are_in, owner_behind, owner_outside, owner_gone, IsFirst, whole_from, whole_take, owner_by, IsBy, owner_marked, others_of}
use Rattle.fs_client.proofs.Answers.{IsNotOf, IsFree, idle_free}

-- the client once a frame is sent of which these marks speak
abbrev pub sent_as : List Announcement → List ℕ → View → View
sent_as announced frame v = record v {
  items = items_sent announced (frame_of frame) v.items;
  flights = v.flights ++ requests_in frame;
  next = v.next + costs_among (parts_sent frame);
  told = record v.told { owners = owned_in (mids_in frame) announced ++ filter (is_outside (mids_in frame)) v.told.owners; announced = [] };
}

-- the owners of requests that were sent before
abbrev pub owners_left : List ℕ → View → List Owner
owners_left frame v = filter (is_outside (mids_in frame)) v.told.owners

-- no call's frame has an id from the next one on
not_used : (next : ℕ) (o : Option Mid) (frame : Mid) → IsUsed next o → next ≤ frame.0 → o ≡ Some frame → ⊥
not_used next None frame used le is = none_some frame is
not_used next (Some m) frame used le is = low m.0 frame.0 (ap (λ (n : Mid). n.0) (some_is m frame is)) used le
  where
    low : (a b : ℕ) → a ≡ b → a < next → next ≤ b → ⊥
    low a b is less le = omega (arith, is, less, le)

apart_ids : (a b next : ℕ) → a < next → next ≤ b → (b == a) ≡ false
apart_ids a b next less le = grind (arith, nat_tests)

apart_ids' : (a b next : ℕ) → a < next → next ≤ b → (a == b) ≡ false
apart_ids' a b next less le = grind (arith, nat_tests)

equal_le : (a b : ℕ) → a ≡ b → b ≤ a
equal_le a b is = omega (arith, is)

-- what the requests of a frame under the next ids are
pub record IsNew (frame : List ℕ) (v : View) : Type 0 where
  pub first : (frame_of frame).0 ≡ v.next
  pub more : v.next < v.next + costs_among (parts_sent frame)
  pub of : AllByRecursion (IsOf (frame_of frame) v.next (v.next + costs_among (parts_sent frame))) (requests_in frame)

pub is_new : (frame : List ℕ) (v : View) → AreNext v.next (parts_sent frame) → 0 < length (parts_sent frame) → IsNew frame v
is_new frame v ids some = record {
  first = first_next v.next (parts_sent frame) ids some;
  more = some_used v.next (parts_sent frame) ids some;
  of = are_of (frame_of frame) v.next (parts_sent frame) ids;
}

-- their frames are no call's
others_elsewhere : (frame : List ℕ) (v : View) (m : Mid) → IsNew frame v → m.0 < v.next → AllByRecursion (λ (y : Sent). (y.frame.0 == m.0) ≡ false) (requests_in frame)
others_elsewhere frame v m new used = all_more (IsOf (frame_of frame) v.next (v.next + costs_among (parts_sent frame))) (λ (y : Sent). (y.frame.0 == m.0) ≡ false) (requests_in frame)
    (λ y of. apart_ids m.0 y.frame.0 v.next used (equal_le y.frame.0 v.next (ap (λ (n : Mid). n.0) of.frame_is ∙ new.first))) new.of

-- a call that sends nothing has in flight what it had
others_stay : (frame : List ℕ) (v : View) → IsNew frame v → (i : Item) → IsUsed v.next i.frame → FliesIn v i → FliesFrom i.frame i v.placed (v.flights ++ requests_in frame)
others_stay frame v new i used f = by i.frame used f
  where
    by : (o : Option Mid) → IsUsed v.next o → FliesFrom o i v.placed v.flights → FliesFrom o i v.placed (v.flights ++ requests_in frame)
    by None used f = f
    by (Some m) used f = flies_append (files_of i v.placed) i.known m (λ x. x) i.rest i.fids v.flights (requests_in frame) (others_elsewhere frame v m new used) f

sent_on : (frame : List ℕ) (v : View) → IsNew frame v → Sane v → AllByRecursion (IsSent (v.next + costs_among (parts_sent frame))) (v.flights ++ requests_in frame)
sent_on frame v new sane = all_append (IsSent (v.next + costs_among (parts_sent frame))) v.flights (requests_in frame)
    (all_more (IsSent v.next) (IsSent (v.next + costs_among (parts_sent frame))) v.flights (λ x sent. (above x.mid.0 sent.0 new.more, above x.frame.0 sent.1 new.more)) sane.sent)
    (all_more (IsOf (frame_of frame) v.next (v.next + costs_among (parts_sent frame))) (IsSent (v.next + costs_among (parts_sent frame))) (requests_in frame)
    (λ y of. (of.high, under y.frame.0 (ap (λ (n : Mid). n.0) of.frame_is ∙ new.first) new.more)) new.of)
  where
    above : (a : ℕ) → a < v.next → v.next < v.next + costs_among (parts_sent frame) → a < v.next + costs_among (parts_sent frame)
    above a less more = omega (arith, less, more)

    under : (a : ℕ) → a ≡ v.next → v.next < v.next + costs_among (parts_sent frame) → a < v.next + costs_among (parts_sent frame)
    under a is more = omega (arith, is, more)

used_on : (frame : List ℕ) (v : View) → IsNew frame v → (o : Option Mid) → IsUsed v.next o → IsUsed (v.next + costs_among (parts_sent frame)) o
used_on frame v new None used = record {}
used_on frame v new (Some m) used = above m.0 used new.more
  where
    above : (a : ℕ) → a < v.next → v.next < v.next + costs_among (parts_sent frame) → a < v.next + costs_among (parts_sent frame)
    above a less more = omega (arith, less, more)

rising_on : (frame : List ℕ) (v : View) → AreNext v.next (parts_sent frame) → IsNew frame v → Sane v → AreRising (v.flights ++ requests_in frame)
rising_on frame v ids new sane = rising_append v.next v.flights (requests_in frame) sane.rising (rise (frame_of frame) v.next (parts_sent frame) ids) sane.sent
    (all_more (IsOf (frame_of frame) v.next (v.next + costs_among (parts_sent frame))) (λ (y : Sent). v.next ≤ y.mid.0) (requests_in frame) (λ y of. of.low) new.of)

early_on : (frame : List ℕ) (v : View) → Sane v → AllByRecursion (IsEarly (v.flights ++ requests_in frame)) v.early
early_on frame v sane = all_more (IsEarly v.flights) (IsEarly (v.flights ++ requests_in frame)) v.early (λ e early. by e (sent_with e.0 v.flights) refl early) sane.early
  where
    by : (e : Mid × Rep) (o : Option Sent) → sent_with e.0 v.flights ≡ o → IsSomeAnd o (λ x. fits x e.1 ≡ true) → IsEarly (v.flights ++ requests_in frame) e
    by e None there holds = absurd holds
    by e (Some x) there holds = subst (λ (o : Option Sent). IsSomeAnd o (λ y. fits y e.1 ≡ true)) (sym (found_append e.0 v.flights (requests_in frame) x there)) holds

-- a frame of no call
pub unmarked_sane : (v : View) (frame : List ℕ) → Sane v → AreNext v.next (parts_sent frame) → 0 < length (parts_sent frame)
    → AllByRecursion (λ (x : Sent). wire_request x.message ≡ Some WireRequest.Aside) (requests_in frame) → Sane (sent_as [] frame v)
unmarked_sane v frame sane ids some asides =
    let new = is_new frame v ids some in
    record {
      flies = both v.items sane.used sane.flies new;
      owned = all_append (IsOwned v.items (owners_left frame v)) v.flights (requests_in frame)
          (all_both (IsSent v.next) (IsOwned v.items v.told.owners) (IsOwned v.items (owners_left frame v)) v.flights (λ x sent own. old x sent own) sane.sent sane.owned)
          (all_both (IsOf (frame_of frame) v.next (v.next + costs_among (parts_sent frame))) (λ (y : Sent). (is_in y.mid.0 (mids_in frame) ≡ true) × (wire_request y.message ≡ Some WireRequest.Aside)) (IsOwned v.items (owners_left frame v)) (requests_in frame)
          (λ y of is. subst (λ (o : Option Owner). IsOwnedBy o v.items y) (sym (owner_gone y.mid (mids_in frame) v.told.owners is.0)) (record {
            aside = is.1;
            elsewhere = all_more (λ (i : Item). IsUsed v.next i.frame) (IsNotFrom y.frame) v.items
                (λ i used here. not_used v.next i.frame y.frame used (equal_le y.frame.0 v.next (ap (λ (n : Mid). n.0) of.frame_is ∙ new.first)) here) sane.used;
          }))
          new.of (all_both (λ (y : Sent). is_in y.mid.0 (mids_in frame) ≡ true) (λ (y : Sent). wire_request y.message ≡ Some WireRequest.Aside)
          (λ (y : Sent). (is_in y.mid.0 (mids_in frame) ≡ true) × (wire_request y.message ≡ Some WireRequest.Aside)) (requests_in frame) (λ y is aside. (is, aside)) (are_in (frame_of frame) v.next (parts_sent frame) ids) asides));
      apart = sane.apart;
      used = all_more (λ (i : Item). IsUsed v.next i.frame) (λ (i : Item). IsUsed (v.next + costs_among (parts_sent frame)) i.frame) v.items (λ i used. used_on frame v new i.frame used) sane.used;
      begun = sane.begun;
      sent = sent_on frame v new sane;
      rising = rising_on frame v ids new sane;
      early = early_on frame v sane;
      no_place = sane.no_place;
      no_lease = sane.no_lease;
    }
  where
    both : (is : List Item) → AllByRecursion (λ (i : Item). IsUsed v.next i.frame) is → AllByRecursion (FliesIn v) is → IsNew frame v
        → AllByRecursion (λ (i : Item). FliesFrom i.frame i v.placed (v.flights ++ requests_in frame)) is
    both [] used f new = tt
    both (i ∷ is) used f new = (others_stay frame v new i used.0 f.0, both is used.1 f.1 new)

    old : (x : Sent) → IsSent v.next x → IsOwned v.items v.told.owners x → IsOwned v.items (owners_left frame v) x
    old x sent own = subst (λ (o : Option Owner). IsOwnedBy o v.items x)
        (sym (owner_outside x.mid (mids_in frame) v.told.owners (not_in x.mid.0 v.next (parts_sent frame) ids sent.0))) own

-- a mark that speaks of all requests of a frame, from its first one on
pub record IsWhole (a : Announcement) (frame : List ℕ) (v : View) : Type 0 where
  pub count : a.count ≡ length (mids_in frame)
  pub first : a.first.0 ≡ v.next

whole_ids : (a : Announcement) (frame : List ℕ) (v : View) → IsWhole a frame v → AreNext v.next (parts_sent frame) → take a.count (from a.first (mids_in frame)) ≡ mids_in frame
whole_ids a frame v whole ids =
    ap (take a.count) (whole_from a.first (mids_in frame) (begins (parts_sent frame) ids))
    ∙ ap (λ (n : ℕ). take n (mids_in frame)) whole.count ∙ whole_take (mids_in frame)
  where
    begins : (parts : List (Result (List ℕ) BadNext)) → AreNext v.next parts → IsFirst a.first (mids_among parts)
    begins [] ids = record {}
    begins (Err bad ∷ parts) ids = absurd ids
    begins (Ok message ∷ parts) ids = ids.0 ∙ sym whole.first

pub owners_are : (a : Announcement) (frame : List ℕ) (v : View) → IsWhole a frame v → AreNext v.next (parts_sent frame)
    → owned_in (mids_in frame) (a ∷ []) ++ owners_left frame v ≡ map (owner_by a) (mids_in frame) ++ owners_left frame v
owners_are a frame v whole ids =
    ap (λ (mids : List Mid). (map (owner_by a) mids ++ []) ++ owners_left frame v) (whole_ids a frame v whole ids) ∙ ap (λ (os : List Owner). os ++ owners_left frame v) (append-nil (map (owner_by a) (mids_in frame)))

-- a frame of a call that has nothing in flight, and whose program asks what the frame does
pub marked_sane : (v : View) (a : Announcement) (frame : List ℕ) (i : Item) → Sane v → AreNext v.next (parts_sent frame) → 0 < length (parts_sent frame) → IsWhole a frame v
    → item_with a.number v.items ≡ Some i → IsIdle i.frame v.flights
    → FliesAs (files_of i v.placed) a.known (frame_of frame) (λ x. x) i.rest i.fids (requests_in frame) → Sane (sent_as (a ∷ []) frame v)
marked_sane v a frame i sane ids some whole runs idle asks =
    let new = is_new frame v ids some in
    subst (λ (os : List Owner). Sane (record v {
      items = on_item a.number (flown (frame_of frame) a.known) v.items;
      flights = v.flights ++ requests_in frame;
      next = v.next + costs_among (parts_sent frame);
      told = record v.told { owners = os; announced = [] };
    })) (sym (owners_are a frame v whole ids)) (record {
      flies = flies new v.items runs sane.used sane.flies;
      owned = all_append (IsOwned (on_item a.number (flown (frame_of frame) a.known) v.items) (map (owner_by a) (mids_in frame) ++ owners_left frame v)) v.flights (requests_in frame)
          (all_both (λ (x : Sent). IsSent v.next x × IsFree a.number v.told.owners x) (IsOwned v.items v.told.owners) (IsOwned (on_item a.number (flown (frame_of frame) a.known) v.items) (map (owner_by a) (mids_in frame) ++ owners_left frame v)) v.flights
          (λ x h own. old new x h.0 h.1 own)
          (all_both (IsSent v.next) (IsFree a.number v.told.owners) (λ (x : Sent). IsSent v.next x × IsFree a.number v.told.owners x) v.flights (λ x sent free. (sent, free)) sane.sent (idle_free v a.number i sane runs idle))
          sane.owned)
          (all_both (IsOf (frame_of frame) v.next (v.next + costs_among (parts_sent frame))) (λ (y : Sent). is_in y.mid.0 (mids_in frame) ≡ true)
          (IsOwned (on_item a.number (flown (frame_of frame) a.known) v.items) (map (owner_by a) (mids_in frame) ++ owners_left frame v)) (requests_in frame)
          (λ y of is. mine y of.frame_is (owner_of y.mid (map (owner_by a) (mids_in frame) ++ owners_left frame v)) (owner_marked a y.mid (mids_in frame) (owners_left frame v) is)) new.of (are_in (frame_of frame) v.next (parts_sent frame) ids));
      apart = apart_sent v.items new sane.used sane.apart;
      used = used_sent new v.items sane.used;
      begun = all_on (IsBegun v.told) a.number (flown (frame_of frame) a.known) v.items (λ j begun. begun) sane.begun;
      sent = sent_on frame v new sane;
      rising = rising_on frame v ids new sane;
      early = early_on frame v sane;
      no_place = sane.no_place;
      no_lease = sane.no_lease;
    })
  where
    low : IsNew frame v → v.next ≤ (frame_of frame).0
    low new = equal_le (frame_of frame).0 v.next new.first

    here : IsNew frame v → FliesFrom (Some (frame_of frame)) (flown (frame_of frame) a.known i) v.placed (v.flights ++ requests_in frame)
    here new = flies_behind (files_of i v.placed) a.known (frame_of frame) (λ x. x) i.rest i.fids v.flights (requests_in frame)
        (all_more (IsSent v.next) (λ (x : Sent). (x.frame.0 == (frame_of frame).0) ≡ false) v.flights (λ x sent. apart_ids' x.frame.0 (frame_of frame).0 v.next sent.1 (low new)) sane.sent) asks

    flies : IsNew frame v → (is : List Item) → item_with a.number is ≡ Some i → AllByRecursion (λ (j : Item). IsUsed v.next j.frame) is → AllByRecursion (FliesIn v) is
        → AllByRecursion (λ (j : Item). FliesFrom j.frame j v.placed (v.flights ++ requests_in frame)) (on_item a.number (flown (frame_of frame) a.known) is)
    flies new [] there used f = tt
    flies new (j ∷ js) there used f = by (j.number == a.number) there (flies new js)
      where
        rest : (ks : List Item) → AllByRecursion (λ (k : Item). IsUsed v.next k.frame) ks → AllByRecursion (FliesIn v) ks → AllByRecursion (λ (k : Item). FliesFrom k.frame k v.placed (v.flights ++ requests_in frame)) ks
        rest ks used f = all_both (λ (k : Item). IsUsed v.next k.frame) (FliesIn v) (λ (k : Item). FliesFrom k.frame k v.placed (v.flights ++ requests_in frame)) ks (λ k u g. others_stay frame v new k u g) used f

        by : (t : Bool) → (if t then Some j else item_with a.number js) ≡ Some i
            → (item_with a.number js ≡ Some i → AllByRecursion (λ (k : Item). IsUsed v.next k.frame) js → AllByRecursion (FliesIn v) js
            → AllByRecursion (λ (k : Item). FliesFrom k.frame k v.placed (v.flights ++ requests_in frame)) (on_item a.number (flown (frame_of frame) a.known) js))
            → AllByRecursion (λ (k : Item). FliesFrom k.frame k v.placed (v.flights ++ requests_in frame)) (if t then flown (frame_of frame) a.known j ∷ js else j ∷ on_item a.number (flown (frame_of frame) a.known) js)
        by true there deeper = (subst (λ (k : Item). FliesFrom (Some (frame_of frame)) (flown (frame_of frame) a.known k) v.placed (v.flights ++ requests_in frame)) (sym (some_is j i there)) (here new), rest js used.1 f.1)
        by false there deeper = (others_stay frame v new j used.0 f.0, deeper there used.1 f.1)

    still : IsNew frame v → (x : Sent) → IsSent v.next x → (o : Option Owner) → IsOwnedBy o v.items x → IsNotOf a.number o → IsOwnedBy o (on_item a.number (flown (frame_of frame) a.known) v.items) x
    still new x sent None own free = record { aside = own.aside; elsewhere = all_on (IsNotFrom x.frame) a.number (flown (frame_of frame) a.known) v.items (λ j not_from is. away is) own.elsewhere }
      where
        away : Some (frame_of frame) ≡ Some x.frame → ⊥
        away is = lower (frame_of frame).0 x.frame.0 (ap (λ (m : Mid). m.0) (some_is (frame_of frame) x.frame is)) sent.1 (low new)
          where
            lower : (p q : ℕ) → p ≡ q → q < v.next → v.next ≤ p → ⊥
            lower p q is less le = omega (arith, is, less, le)
    still new x sent (Some o) own free = subst (λ (p : Option Item). IsSomeAnd p (IsFrom o x)) (sym (item_on o.number a.number (flown (frame_of frame) a.known) v.items (λ j. refl) free)) own

    old : IsNew frame v → (x : Sent) → IsSent v.next x → IsFree a.number v.told.owners x → IsOwned v.items v.told.owners x
        → IsOwned (on_item a.number (flown (frame_of frame) a.known) v.items) (map (owner_by a) (mids_in frame) ++ owners_left frame v) x
    old new x sent free own =
        let out : is_in x.mid.0 (mids_in frame) ≡ false = not_in x.mid.0 v.next (parts_sent frame) ids sent.0 in
        subst (λ (o : Option Owner). IsOwnedBy o (on_item a.number (flown (frame_of frame) a.known) v.items) x)
        (sym (owner_behind x.mid (map (owner_by a) (mids_in frame)) (owners_left frame v) (others_of a x.mid (mids_in frame) out) ∙ owner_outside x.mid (mids_in frame) v.told.owners out))
        (still new x sent (owner_of x.mid v.told.owners) own free)

    mine : (y : Sent) → y.frame ≡ frame_of frame → (o : Option Owner) → IsSomeAnd o (IsBy a) → IsOwnedBy o (on_item a.number (flown (frame_of frame) a.known) v.items) y
    mine y is None by = absurd by
    mine y is (Some o) by =
        subst (λ (n : ℕ). IsSomeAnd (item_with n (on_item a.number (flown (frame_of frame) a.known) v.items)) (IsFrom o y)) (sym by.number)
        (subst (λ (p : Option Item). IsSomeAnd p (IsFrom o y)) (sym (item_on_it a.number (flown (frame_of frame) a.known) v.items (λ j. refl) ∙ ap (option_map (flown (frame_of frame) a.known)) runs))
        (record { frame = ap (λ (m : Mid). Some m) (sym is); known = sym by.known }))

    used_sent : IsNew frame v → (is : List Item) → AllByRecursion (λ (j : Item). IsUsed v.next j.frame) is → AllByRecursion (λ (j : Item). IsUsed (v.next + costs_among (parts_sent frame)) j.frame) (on_item a.number (flown (frame_of frame) a.known) is)
    used_sent new [] used = tt
    used_sent new (j ∷ js) used = by (j.number == a.number) (used_sent new js used.1)
      where
        under : (p q : ℕ) → p ≡ v.next → v.next < q → p < q
        under p q is less = omega (arith, is, less)

        by : (t : Bool) → AllByRecursion (λ (k : Item). IsUsed (v.next + costs_among (parts_sent frame)) k.frame) (on_item a.number (flown (frame_of frame) a.known) js)
            → AllByRecursion (λ (k : Item). IsUsed (v.next + costs_among (parts_sent frame)) k.frame) (if t then flown (frame_of frame) a.known j ∷ js else j ∷ on_item a.number (flown (frame_of frame) a.known) js)
        by true deeper = (
          under (frame_of frame).0 (v.next + costs_among (parts_sent frame)) new.first new.more,
          all_more (λ (k : Item). IsUsed v.next k.frame) (λ (k : Item). IsUsed (v.next + costs_among (parts_sent frame)) k.frame) js (λ k u. used_on frame v new k.frame u) used.1,
        )
        by false deeper = (used_on frame v new j.frame used.0, deeper)

    apart_sent : (is : List Item) → IsNew frame v → AllByRecursion (λ (j : Item). IsUsed v.next j.frame) is → AreApart is → AreApart (on_item a.number (flown (frame_of frame) a.known) is)
    apart_sent [] new used apart = record {}
    apart_sent (j ∷ js) new used apart = by (j.number == a.number) (apart_sent js new used.1 apart.1)
      where
        never : (k : Item) → IsUsed v.next k.frame → (m : Mid) → Some (frame_of frame) ≡ Some m → k.frame ≡ Some m → ⊥
        never k used m is there = not_used v.next k.frame (frame_of frame) used (low new) (there ∙ sym is)

        by : (t : Bool) → AreApart (on_item a.number (flown (frame_of frame) a.known) js) → AreApart (if t then flown (frame_of frame) a.known j ∷ js else j ∷ on_item a.number (flown (frame_of frame) a.known) js)
        by true deeper = (all_both (λ (k : Item). IsUsed v.next k.frame) (IsApart j) (IsApart (flown (frame_of frame) a.known j)) js (λ k u p. (p.0, λ m here there. never k u m here there)) used.1 apart.0, apart.1)
        by false deeper = (all_on (IsApart j) a.number (flown (frame_of frame) a.known) js (λ k p. (p.0, λ m here there. never j used.0 m there here)) apart.0, deeper)

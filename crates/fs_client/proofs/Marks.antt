-- A frame is announced, the clock is read, the end is said: what holds of the client holds on.
use Rattle.std.proofs.Common.{◌≡◌, ◌∙◌, refl, sym, ap, subst, ℕ, ◌==◌, Bool, true, false, if◌then◌else◌, List, [], ◌∷◌, Option, Some, None}
use Rattle.std.specs.Prelude.{IsSomeAnd, map}
use Rattle.std.specs.List.{AllByRecursion}
use Rattle.smb_base.specs.declared.names.Mid.{Mid}
use Rattle.fs_types.specs.declared.call.Call.{Call}
use Rattle.share_state.specs.declared.connection.Sent.{Sent}
use Rattle.smb_link.specs.declared.event.Event.TheVariants as event
use Rattle.smb_link.specs.declared.mark.Mark.TheVariants as mark
use Rattle.fs_plain.specs.Owners.{Owner, owner_of}
use Rattle.fs_plain.specs.Told.{Told, was_begun}
use Rattle.fs_client.specs.Item.{Item, Placed, item_with, spoken_for}
use Rattle.fs_client.specs.View.{Setting, View}
use Rattle.fs_client.specs.After.{view_after}
use Rattle.fs_client.specs.Flies.{FliesFrom}
use Rattle.fs_client.specs.Sane.{IsNotFrom, IsFrom, IsOwnedBy, IsOwned, IsUsed, IsApart, AreApart, IsBegun, FliesIn, Sane}
use Rattle.fs_client.proofs.Lists.{all_more, all_map, item_map, some_map}

-- a change of each call that keeps its number, its frame and what it has in flight
pub record Leaves (h : Item → Item) : Type 0 where
  pub number : (i : Item) → (h i).number ≡ i.number
  pub frame : (i : Item) → (h i).frame ≡ i.frame
  pub known : (i : Item) → (h i).known ≡ i.known
  pub flies : (i : Item) (placed : List Placed) (flights : List Sent) → FliesFrom i.frame i placed flights → FliesFrom (h i).frame (h i) placed flights

apart_map : (h : Item → Item) → Leaves h → (items : List Item) → AreApart items → AreApart (map h items)
apart_map h leaves [] apart = record {}
apart_map h leaves (i ∷ is) apart = (
  all_map (IsApart i) (IsApart (h i)) h is
      (λ j a. (
        ap (λ (m : ℕ). m == (h i).number) (leaves.number j) ∙ ap (λ (m : ℕ). j.number == m) (leaves.number i) ∙ a.0,
        λ frame here there. a.1 frame (sym (leaves.frame i) ∙ here) (sym (leaves.frame j) ∙ there),
      )) apart.0,
  apart_map h leaves is apart.1,
)

pub owned_map : (h : Item → Item) → Leaves h → (items : List Item) (owners : List Owner) (x : Sent) → IsOwned items owners x → IsOwned (map h items) owners x
owned_map h leaves items owners x own = by (owner_of x.mid owners) own
  where
    by : (o : Option Owner) → IsOwnedBy o items x → IsOwnedBy o (map h items) x
    by None own = record { aside = own.aside; elsewhere = all_map (IsNotFrom x.frame) (IsNotFrom x.frame) h items (λ i not_from is. not_from (sym (leaves.frame i) ∙ is)) own.elsewhere }
    by (Some o) own = subst (λ (p : Option Item). IsSomeAnd p (IsFrom o x)) (sym (item_map o.number h items leaves.number))
        (some_map (IsFrom o x) (IsFrom o x) h (item_with o.number items)
        (λ i from. record { frame = leaves.frame i ∙ from.frame; known = leaves.known i ∙ from.known }) own)

-- what the events tell may change beside owners and lines
pub record TellsOn (t t' : Told) : Type 0 where
  pub owners : t'.owners ≡ t.owners
  pub begun : t'.begun ≡ t.begun

pub changed_sane : (v : View) (h : Item → Item) (t : Told) → Leaves h → TellsOn v.told t → Sane v → Sane (record v { items = map h v.items; told = t })
changed_sane v h t leaves tells sane = record {
  flies = all_map (FliesIn v) (FliesIn v) h v.items (λ i f. leaves.flies i v.placed v.flights f) sane.flies;
  owned = subst (λ (os : List Owner). AllByRecursion (IsOwned (map h v.items) os) v.flights) (sym tells.owners)
      (all_more (IsOwned v.items v.told.owners) (IsOwned (map h v.items) v.told.owners) v.flights (λ x own. owned_map h leaves v.items v.told.owners x own) sane.owned);
  apart = apart_map h leaves v.items sane.apart;
  used = all_map (λ (i : Item). IsUsed v.next i.frame) (λ (i : Item). IsUsed v.next i.frame) h v.items (λ i used. subst (IsUsed v.next) (sym (leaves.frame i)) used) sane.used;
  begun = all_map (IsBegun v.told) (IsBegun t) h v.items (λ i begun. begun_on i begun) sane.begun;
  sent = sane.sent;
  rising = sane.rising;
  early = sane.early;
  no_place = sane.no_place;
  no_lease = sane.no_lease;
}
  where
    begun_on : (i : Item) → IsBegun v.told i → IsBegun t (h i)
    begun_on i begun = ap (λ (n : ℕ). was_begun n t.begun) (leaves.number i) ∙ ap (λ (lines : List (ℕ × Call)). was_begun i.number lines) tells.begun ∙ begun

-- a word of an announcement changes nothing that a call has in flight
spoken_leaves : (n : ℕ) → Leaves (spoken_for n)
spoken_leaves n = record {
  number = λ i. number i (i.number == n);
  frame = λ i. frame i (i.number == n);
  known = λ i. known i (i.number == n);
  flies = λ i placed flights f. flies i placed flights (i.number == n) f;
}
  where
    number : (i : Item) (t : Bool) → (if t then record i { announced = true } else i).number ≡ i.number
    number i true = refl
    number i false = refl

    frame : (i : Item) (t : Bool) → (if t then record i { announced = true } else i).frame ≡ i.frame
    frame i true = refl
    frame i false = refl

    known : (i : Item) (t : Bool) → (if t then record i { announced = true } else i).known ≡ i.known
    known i true = refl
    known i false = refl

    by_frame : (i : Item) (o : Option Mid) (placed : List Placed) (flights : List Sent) → FliesFrom o i placed flights → FliesFrom o (record i { announced = true }) placed flights
    by_frame i None placed flights f = f
    by_frame i (Some m) placed flights f = f

    flies : (i : Item) (placed : List Placed) (flights : List Sent) (t : Bool) → FliesFrom i.frame i placed flights
        → FliesFrom (if t then record i { announced = true } else i).frame (if t then record i { announced = true } else i) placed flights
    flies i placed flights true f = by_frame i i.frame placed flights f
    flies i placed flights false f = f

pub announce_stays : (s : Setting) (v : View) (number : ℕ) (first : Mid) (count : ℕ) → Sane v → Sane (view_after s v (event.Marked (mark.For number first count)))
announce_stays s v number first count sane =
    changed_sane v (spoken_for number) (view_after s v (event.Marked (mark.For number first count))).told (spoken_leaves number) (record { owners = refl; begun = refl }) sane

-- what the events tell changes alone
pub told_sane : (v : View) (t : Told) → TellsOn v.told t → Sane v → Sane (record v { told = t })
told_sane v t tells sane = record {
  flies = sane.flies;
  owned = subst (λ (os : List Owner). AllByRecursion (IsOwned v.items os) v.flights) (sym tells.owners) sane.owned;
  apart = sane.apart;
  used = sane.used;
  begun = subst (λ (lines : List (ℕ × Call)). AllByRecursion (λ (i : Item). was_begun i.number lines ≡ true) v.items) (sym tells.begun) sane.begun;
  sent = sane.sent;
  rising = sane.rising;
  early = sane.early;
  no_place = sane.no_place;
  no_lease = sane.no_lease;
}

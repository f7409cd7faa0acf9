-- A call is answered: what holds of the client holds on.
use Rattle.std.proofs.Common.{◌≡◌, ◌∙◌, refl, sym, ap, subst, ℕ, ◌==◌, Bool, true, false, cond, not, List, [], ◌∷◌, Option, Some, None, inl, inr}
use Rattle.std.specs.Prelude.{IsSomeAnd}
use Rattle.std.specs.List.{AllByRecursion}
use Rattle.std.proofs.lemmas.Bool.{false≢true}
use Rattle.std.proofs.lemmas.Bool.Decides.{eqb_tells}
use Rattle.smb_base.specs.declared.names.Mid.{Mid}
use Rattle.fs_types.specs.declared.answer.Answer.{Answer}
use Rattle.share_state.specs.declared.connection.Sent.{Sent}
use Rattle.smb_link.specs.declared.event.Event.TheVariants as event
use Rattle.smb_link.specs.declared.mark.Mark.TheVariants as mark
use Rattle.fs_plain.specs.Owners.{Owner, owner_of}
use Rattle.fs_client.specs.Item.{Item, item_with, items_but}
use Rattle.fs_client.specs.View.{Setting, View}
use Rattle.fs_client.specs.After.{view_after}
use Rattle.fs_client.specs.Flies.{IsElsewhere, IsIdle}
use Rattle.fs_client.specs.Sane.{IsNotFrom, IsFrom, IsOwnedBy, IsOwned, IsUsed, IsApart, AreApart, IsBegun, FliesIn, Sane}
use Rattle.fs_client.proofs.Lists.{none_some, some_is, itself, all_more, all_filter, item_but}

-- a request is no request of a call
abbrev pub IsNotOf : ℕ → Option Owner → Type 0
IsNotOf number None = Unit {0}
IsNotOf number (Some o) = (o.number == number) ≡ false

abbrev pub IsFree : ℕ → List Owner → Sent → Type 0
IsFree number owners x = IsNotOf number (owner_of x.mid owners)

-- a call that has nothing in flight owns no request in flight
pub idle_free : (v : View) (number : ℕ) (i : Item) → Sane v → item_with number v.items ≡ Some i → IsIdle i.frame v.flights → AllByRecursion (IsFree number v.told.owners) v.flights
idle_free v number i sane runs idle = each v.flights sane.owned (away i.frame refl idle)
  where
    away : (o : Option Mid) → i.frame ≡ o → IsIdle o v.flights → AllByRecursion (λ (x : Sent). i.frame ≡ Some x.frame → ⊥) v.flights
    away None is idle = none v.flights
      where
        none : (xs : List Sent) → AllByRecursion (λ (x : Sent). i.frame ≡ Some x.frame → ⊥) xs
        none [] = tt
        none (x ∷ xs) = (λ e. none_some x.frame (sym is ∙ e), none xs)
    away (Some frame) is idle = all_more (IsElsewhere frame) (λ (x : Sent). i.frame ≡ Some x.frame → ⊥) v.flights
        (λ x far e. false≢true (sym far ∙ subst (λ (m : Mid). (m.0 == frame.0) ≡ true) (some_is frame x.frame (sym is ∙ e)) (itself frame.0))) idle

    owns : (x : Sent) → (i.frame ≡ Some x.frame → ⊥) → (o : Option Owner) → IsOwnedBy o v.items x → IsNotOf number o
    owns x not_from None own = record {}
    owns x not_from (Some o) own = elim (eqb_tells o.number number) [
      | inl told ↦ absurd (not_from (subst (λ (p : Option Item). IsSomeAnd p (IsFrom o x)) (ap (λ (n : ℕ). item_with n v.items) told.1 ∙ runs) own).frame)
      | inr told ↦ told.0
    ]

    each : (xs : List Sent) → AllByRecursion (IsOwned v.items v.told.owners) xs → AllByRecursion (λ (x : Sent). i.frame ≡ Some x.frame → ⊥) xs → AllByRecursion (IsFree number v.told.owners) xs
    each [] own away = tt
    each (x ∷ xs) own away = (owns x away.0 (owner_of x.mid v.told.owners) own.0, each xs own.1 away.1)

apart_but : (number : ℕ) (items : List Item) → AreApart items → AreApart (items_but number items)
apart_but number [] apart = record {}
apart_but number (i ∷ is) apart = by (i.number == number) (apart_but number is apart.1)
  where
    by : (t : Bool) → AreApart (items_but number is) → AreApart (cond (not t) (i ∷ items_but number is) (items_but number is))
    by true deeper = deeper
    by false deeper = (all_filter (IsApart i) (λ (j : Item). not (j.number == number)) is apart.0, deeper)

pub answer_stays : (s : Setting) (v : View) (number : ℕ) (a : Answer) (i : Item) → Sane v → item_with number v.items ≡ Some i → IsIdle i.frame v.flights
    → Sane (view_after s v (event.Marked (mark.Answer number a)))
answer_stays s v number a i sane runs idle = record {
  flies = all_filter (FliesIn v) (λ (j : Item). not (j.number == number)) v.items sane.flies;
  owned = both v.flights sane.owned (idle_free v number i sane runs idle);
  apart = apart_but number v.items sane.apart;
  used = all_filter (λ (j : Item). IsUsed v.next j.frame) (λ (j : Item). not (j.number == number)) v.items sane.used;
  begun = all_filter (IsBegun v.told) (λ (j : Item). not (j.number == number)) v.items sane.begun;
  sent = sane.sent;
  rising = sane.rising;
  early = sane.early;
  no_place = sane.no_place;
  no_lease = sane.no_lease;
}
  where
    still : (x : Sent) (o : Option Owner) → IsOwnedBy o v.items x → IsNotOf number o → IsOwnedBy o (items_but number v.items) x
    still x None own free = record { aside = own.aside; elsewhere = all_filter (IsNotFrom x.frame) (λ (j : Item). not (j.number == number)) v.items own.elsewhere }
    still x (Some o) own free = subst (λ (p : Option Item). IsSomeAnd p (IsFrom o x)) (sym (item_but o.number number v.items free)) own

    both : (xs : List Sent) → AllByRecursion (IsOwned v.items v.told.owners) xs → AllByRecursion (IsFree number v.told.owners) xs → AllByRecursion (IsOwned (items_but number v.items) v.told.owners) xs
    both [] own free = tt
    both (x ∷ xs) own free = (still x (owner_of x.mid v.told.owners) own.0 free.0, both xs own.1 free.1)

-- A call begins: what holds of the client holds on.
use Rattle.std.proofs.Common.{arith, ◌≡◌, ◌∙◌, refl, sym, ap, ℕ, ◌==◌, Bool, true, false, List, [], ◌∷◌, ◌++◌, Option, Some, None}
use Rattle.std.specs.Prelude.{nat_lt, ◌&&◌, ◌||◌}
use Rattle.std.specs.List.{AllByRecursion, list_all}
use Rattle.std.proofs.lemmas.Bool.{false≢true}
use Rattle.std.proofs.lemmas.Bool.Decides.{nat_tests}
use Rattle.fs_types.specs.declared.call.Call.{Call}
use Rattle.share_state.specs.declared.connection.Sent.{Sent}
use Rattle.smb_link.specs.declared.event.Event.TheVariants as event
use Rattle.smb_link.specs.declared.mark.Mark.TheVariants as mark
use Rattle.fs_plain.specs.Owners.{Owner, owner_of}
use Rattle.fs_plain.specs.Told.{was_begun}
use Rattle.fs_client.specs.Item.{Item}
use Rattle.fs_client.specs.View.{Setting, View}
use Rattle.fs_client.specs.After.{new_item, view_after}
use Rattle.fs_client.specs.Sane.{IsNotFrom, IsFrom, IsOwnedBy, IsOwned, IsUsed, IsApart, AreApart, IsBegun, FliesIn, Sane}
use Rattle.fs_client.proofs.Lists.{none_some, all_more, all_append, itself, item_append}

-- a line that was begun has another number
began_other : (n number : ℕ) (lines : List (ℕ × Call)) → list_all (λ line. nat_lt line.0 number) lines ≡ true → was_begun n lines ≡ true → (number == n) ≡ false
began_other n number [] above begun = absurd (false≢true begun)
began_other n number (line ∷ lines) above begun =
    by (line.0 == n) refl begun (began_other n number lines (both (nat_lt line.0 number) (list_all (λ l. nat_lt l.0 number) lines) above).1)
  where
    here : (a : ℕ) → (a == n) ≡ true → nat_lt a number ≡ true → (number == n) ≡ false
    here a is less = grind (arith, nat_tests)

    both : (a b : Bool) → (a && b) ≡ true → (a ≡ true) × (b ≡ true)
    both true true is = (refl, refl)
    both true false is = absurd (false≢true is)
    both false b is = absurd (false≢true is)

    by : (t : Bool) → (line.0 == n) ≡ t → (t || was_begun n lines) ≡ true → (was_begun n lines ≡ true → (number == n) ≡ false) → (number == n) ≡ false
    by true is begun deeper = here line.0 is (both (nat_lt line.0 number) (list_all (λ l. nat_lt l.0 number) lines) above).0
    by false is begun deeper = deeper begun

apart_append : (items : List Item) (j : Item) → AllByRecursion (λ (i : Item). IsApart i j) items → AreApart items → AreApart (items ++ j ∷ [])
apart_append [] j new apart = (tt, record {})
apart_append (i ∷ is) j new apart = (all_append (IsApart i) is (j ∷ []) apart.0 (new.0, tt), apart_append is j new.1 apart.1)

owned_append : (items : List Item) (j : Item) (owners : List Owner) (x : Sent) → j.frame ≡ None → IsOwned items owners x → IsOwned (items ++ j ∷ []) owners x
owned_append items j owners x none own = by (owner_of x.mid owners) own
  where
    by : (o : Option Owner) → IsOwnedBy o items x → IsOwnedBy o (items ++ j ∷ []) x
    by None own = record { aside = own.aside; elsewhere = all_append (IsNotFrom x.frame) items (j ∷ []) own.elsewhere ((λ is. none_some x.frame (sym none ∙ is)), tt) }
    by (Some o) own = item_append o.number items j (IsFrom o x) own

pub begin_stays : (s : Setting) (v : View) (number lane : ℕ) (call : Call) → Sane v → list_all (λ line. nat_lt line.0 number) v.told.begun ≡ true
    → Sane (view_after s v (event.Marked (mark.Begin number lane call)))
begin_stays s v number lane call sane above =
    let new : Item = new_item s number lane call v in
    record {
      flies = all_append (FliesIn v) v.items (new ∷ []) sane.flies (record {}, tt);
      owned = all_more (IsOwned v.items v.told.owners) (IsOwned (v.items ++ new ∷ []) v.told.owners) v.flights (λ x own. owned_append v.items new v.told.owners x refl own) sane.owned;
      apart = apart_append v.items new (all_more (IsBegun v.told) (λ (i : Item). IsApart i new) v.items
          (λ i begun. (began_other i.number number v.told.begun above begun, λ frame here there. none_some frame there)) sane.begun) sane.apart;
      used = all_append (λ (i : Item). IsUsed v.next i.frame) v.items (new ∷ []) sane.used (record {}, tt);
      begun = all_append (λ (i : Item). was_begun i.number ((number, call) ∷ v.told.begun) ≡ true) v.items (new ∷ [])
          (all_more (IsBegun v.told) (λ (i : Item). was_begun i.number ((number, call) ∷ v.told.begun) ≡ true) v.items (λ i begun. or_true (number == i.number) (was_begun i.number v.told.begun) begun) sane.begun)
          (ap (λ (b : Bool). b || was_begun number v.told.begun) (itself number), tt);
      sent = sane.sent;
      rising = sane.rising;
      early = sane.early;
      no_place = sane.no_place;
      no_lease = sane.no_lease;
    }
  where
    or_true : (a b : Bool) → b ≡ true → (a || b) ≡ true
    or_true true b is = refl
    or_true false b is = is

-- What each step of the client makes of it once all that is owed was looked at: the same as of the client before the looks.
use Rattle.std.proofs.Common.{arith, ◌≡◌, ◌∙◌, refl, sym, ap, subst, ℕ, ◌+◌, ◌==◌, ◌<◌, ◌≤◌, false, List, [], ◌∷◌, ◌++◌, length, Some}
use Rattle.std.specs.Prelude.{map}
use Rattle.std.specs.List.{AllByRecursion}
use Rattle.std.proofs.lemmas.Bool.Decides.{nat_tests}
use Rattle.smb_base.specs.declared.names.Mid.{Mid}
use Rattle.fs_types.specs.declared.answer.Answer.{Answer}
use Rattle.fs_types.specs.declared.call.Call.{Call}
use Rattle.share_state.specs.declared.connection.Owed.{Owed}
use Rattle.share_state.specs.declared.connection.Sent.{Sent}
use Rattle.smb_link.specs.declared.event.Event.TheVariants as event
use Rattle.smb_link.specs.declared.mark.Mark.TheVariants as mark
use Rattle.fs_plain.specs.Owners.{mids_in, Owner}
use Rattle.fs_plain.specs.Told.{Told, Announcement}
use Rattle.fs_plain.specs.World.{requests_in}
use Rattle.fs_client.specs.Item.{Item, item_with, items_but, spoken_for}
use Rattle.fs_client.specs.View.{Setting, View}
use Rattle.fs_client.specs.Owing.{taken, AreDue}
use Rattle.fs_client.specs.After.{new_item, parts_sent, frame_of, costs_among, view_after}
use Rattle.fs_client.specs.Flies.{IsIdle}
use Rattle.fs_client.specs.Spelled.{AreNext}
use Rattle.fs_client.specs.Sane.{IsSent, Sane}
use Rattle.fs_client.proofs.Lists.{all_more, all_both}
use Rattle.fs_client.proofs.Frames.{IsOf, not_in, owner_behind, owner_outside, owner_by, others_of}
use Rattle.fs_client.proofs.Answers.{IsFree, idle_free}
use Rattle.fs_client.proofs.Sends.{sent_as, owners_left, IsNew, is_new, IsWhole, owners_are}
use Rattle.fs_client.proofs.Keeping.{Along, along}
use Rattle.fs_client.proofs.Steps.{gets, Gets, got_kept, changed, Changes, NoMore, HasNothing, told_kept, begin_kept, announce_kept, answer_kept, sends, IsFar, Sends, send_kept}

-- a step does the same before and after the looks, and what is owed is still due
pub record Commutes (T : View → View) (os : List Owed) (v w : View) : Type 0 where
  pub is : taken os w ≡ T (taken os v)
  pub due : AreDue w os
  pub sane : Sane (taken os v)
  pub none : (taken os v).early ≡ []

by_change : (H : List Item → List Item) (C : View → Type 0) (t : Told) (os : List Owed) (v w : View) → Along (Changes H C t) os v w → Commutes (changed H t) os v w
by_change H C t os v w a = record { is = a.related.is; due = a.due; sane = a.sane; none = a.none }

pub begin_commutes : (s : Setting) (os : List Owed) (v : View) (number lane : ℕ) (call : Call) → Sane v → v.early ≡ [] → AreDue v os
    → Commutes (changed (λ items. items ++ new_item s number lane call v ∷ []) (view_after s v (event.Marked (mark.Begin number lane call))).told) os v (view_after s v (event.Marked (mark.Begin number lane call)))
begin_commutes s os v number lane call sane none due =
    let t : Told = (view_after s v (event.Marked (mark.Begin number lane call))).told in
    let w : View = view_after s v (event.Marked (mark.Begin number lane call)) in
    by_change (λ items. items ++ new_item s number lane call v ∷ []) NoMore t os v w
    (along (Changes (λ items. items ++ new_item s number lane call v ∷ []) NoMore t) (begin_kept (new_item s number lane call v) t) os v w sane none none (record { is = refl; owners = refl; so = record {} }) due)

pub announce_commutes : (s : Setting) (os : List Owed) (v : View) (number : ℕ) (first : Mid) (count : ℕ) → Sane v → v.early ≡ [] → AreDue v os
    → Commutes (changed (map (spoken_for number)) (view_after s v (event.Marked (mark.For number first count))).told) os v (view_after s v (event.Marked (mark.For number first count)))
announce_commutes s os v number first count sane none due =
    let t : Told = (view_after s v (event.Marked (mark.For number first count))).told in
    let w : View = view_after s v (event.Marked (mark.For number first count)) in
    by_change (map (spoken_for number)) NoMore t os v w
    (along (Changes (map (spoken_for number)) NoMore t) (announce_kept number t) os v w sane none none (record { is = refl; owners = refl; so = record {} }) due)

pub answer_commutes : (s : Setting) (os : List Owed) (v : View) (number : ℕ) (a : Answer) (i : Item) → Sane v → v.early ≡ [] → AreDue v os → item_with number v.items ≡ Some i → IsIdle i.frame v.flights
    → Commutes (changed (items_but number) (view_after s v (event.Marked (mark.Answer number a))).told) os v (view_after s v (event.Marked (mark.Answer number a)))
answer_commutes s os v number a i sane none due runs idle =
    let t : Told = (view_after s v (event.Marked (mark.Answer number a))).told in
    let w : View = view_after s v (event.Marked (mark.Answer number a)) in
    by_change (items_but number) (HasNothing number) t os v w
    (along (Changes (items_but number) (HasNothing number) t) (answer_kept number t) os v w sane none none (record { is = refl; owners = refl; so = idle_free v number i sane runs idle }) due)

-- the clock is read; the end is said
pub now_commutes : (s : Setting) (os : List Owed) (v : View) (time : ℕ) → Sane v → v.early ≡ [] → AreDue v os
    → Commutes (changed (λ items. items) (view_after s v (event.Marked (mark.Now time))).told) os v (view_after s v (event.Marked (mark.Now time)))
now_commutes s os v time sane none due =
    let t : Told = (view_after s v (event.Marked (mark.Now time))).told in
    let w : View = view_after s v (event.Marked (mark.Now time)) in
    by_change (λ items. items) NoMore t os v w
    (along (Changes (λ items. items) NoMore t) (told_kept t) os v w sane none none (record { is = refl; owners = refl; so = record {} }) due)

pub end_commutes : (s : Setting) (os : List Owed) (v : View) → Sane v → v.early ≡ [] → AreDue v os
    → Commutes (changed (λ items. items) (view_after s v (event.Marked mark.End)).told) os v (view_after s v (event.Marked mark.End))
end_commutes s os v sane none due =
    let t : Told = (view_after s v (event.Marked mark.End)).told in
    let w : View = view_after s v (event.Marked mark.End) in
    by_change (λ items. items) NoMore t os v w
    (along (Changes (λ items. items) NoMore t) (told_kept t) os v w sane none none (record { is = refl; owners = refl; so = record {} }) due)

-- bytes are got, before they are looked at
pub got_commutes : (os : List Owed) (v : View) (bytes : List ℕ) (t : Told) → t.owners ≡ v.told.owners → Sane v → v.early ≡ [] → AreDue v os → Commutes (gets bytes t) os v (gets bytes t v)
got_commutes os v bytes t owners sane none due =
    let a = along (Gets bytes t) (got_kept bytes t) os v (gets bytes t v) sane none none (record { is = refl; owners = owners }) due in
    record { is = a.related.is; due = a.due; sane = a.sane; none = a.none }

-- a frame is sent, of no call or of one that has nothing in flight
apart : (a b next : ℕ) → a < next → next ≤ b → (b == a) ≡ false
apart a b next less le = grind (arith, nat_tests)

far_of : (v : View) (frame : List ℕ) (x : Sent) → IsNew frame v → IsSent v.next x
    → AllByRecursion (λ (y : Sent). (y.mid.0 == x.mid.0) ≡ false) (requests_in frame) × AllByRecursion (λ (y : Sent). (y.frame.0 == x.frame.0) ≡ false) (requests_in frame)
far_of v frame x new sent = (
  all_more (IsOf (frame_of frame) v.next (v.next + costs_among (parts_sent frame))) (λ (y : Sent). (y.mid.0 == x.mid.0) ≡ false) (requests_in frame) (λ y of. apart x.mid.0 y.mid.0 v.next sent.0 of.low) new.of,
  all_more (IsOf (frame_of frame) v.next (v.next + costs_among (parts_sent frame))) (λ (y : Sent). (y.frame.0 == x.frame.0) ≡ false) (requests_in frame)
      (λ y of. apart x.frame.0 y.frame.0 v.next sent.1 (at_least y.frame.0 (ap (λ (m : Mid). m.0) of.frame_is ∙ new.first))) new.of,
)
  where
    at_least : (a : ℕ) → a ≡ v.next → v.next ≤ a
    at_least a is = omega (arith, is)

pub unmarked_commutes : (os : List Owed) (v : View) (frame : List ℕ) → Sane v → v.early ≡ [] → AreDue v os → AreNext v.next (parts_sent frame) → 0 < length (parts_sent frame)
    → Commutes (sends [] (frame_of frame) (requests_in frame) (v.next + costs_among (parts_sent frame)) (sent_as [] frame v).told) os v (sent_as [] frame v)
unmarked_commutes os v frame sane none due ids some =
    let new = is_new frame v ids some in
    let a = along (Sends [] (frame_of frame) (requests_in frame) (v.next + costs_among (parts_sent frame)) (sent_as [] frame v).told)
    (send_kept [] (frame_of frame) (requests_in frame) (v.next + costs_among (parts_sent frame)) (sent_as [] frame v).told) os v (sent_as [] frame v) sane none none
    (record {
      is = refl;
      far = all_more (IsSent v.next) (IsFar [] (requests_in frame) v.told.owners (owners_left frame v)) v.flights
          (λ x sent. let f = far_of v frame x new sent in record {
            mids = f.0;
            frames = f.1;
            owner = owner_outside x.mid (mids_in frame) v.told.owners (not_in x.mid.0 v.next (parts_sent frame) ids sent.0);
            free = tt;
          }) sane.sent;
    }) due in
    record { is = a.related.is; due = a.due; sane = a.sane; none = a.none }

pub marked_commutes : (os : List Owed) (v : View) (a : Announcement) (frame : List ℕ) (i : Item) → Sane v → v.early ≡ [] → AreDue v os → AreNext v.next (parts_sent frame) → 0 < length (parts_sent frame)
    → IsWhole a frame v → item_with a.number v.items ≡ Some i → IsIdle i.frame v.flights
    → Commutes (sends (a ∷ []) (frame_of frame) (requests_in frame) (v.next + costs_among (parts_sent frame)) (sent_as (a ∷ []) frame v).told) os v (sent_as (a ∷ []) frame v)
marked_commutes os v a frame i sane none due ids some whole runs idle =
    let new = is_new frame v ids some in
    let l = along (Sends (a ∷ []) (frame_of frame) (requests_in frame) (v.next + costs_among (parts_sent frame)) (sent_as (a ∷ []) frame v).told)
    (send_kept (a ∷ []) (frame_of frame) (requests_in frame) (v.next + costs_among (parts_sent frame)) (sent_as (a ∷ []) frame v).told) os v (sent_as (a ∷ []) frame v) sane none none
    (record {
      is = refl;
      far = subst (λ (os : List Owner). AllByRecursion (IsFar (a ∷ []) (requests_in frame) v.told.owners os) v.flights) (sym (owners_are a frame v whole ids))
          (all_both (IsSent v.next) (IsFree a.number v.told.owners) (IsFar (a ∷ []) (requests_in frame) v.told.owners (map (owner_by a) (mids_in frame) ++ owners_left frame v)) v.flights
          (λ x sent free. let f = far_of v frame x new sent in let out = not_in x.mid.0 v.next (parts_sent frame) ids sent.0 in record {
            mids = f.0;
            frames = f.1;
            owner = owner_behind x.mid (map (owner_by a) (mids_in frame)) (owners_left frame v) (others_of a x.mid (mids_in frame) out) ∙ owner_outside x.mid (mids_in frame) v.told.owners out;
            free = (free, tt);
          }) sane.sent (idle_free v a.number i sane runs idle));
    }) due in
    record { is = l.related.is; due = l.due; sane = l.sane; none = l.none }

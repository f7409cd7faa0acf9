-- Whatever the client may do, and whatever the share does, what holds of the client holds on.
use Rattle.std.proofs.Common.{◌≡◌, refl, ap, ℕ, true, false, List, [], ◌∷◌, ◌++◌, Option, Some, None}
use Rattle.std.specs.Prelude.{IsSomeAnd}
use Rattle.smb_link.specs.declared.event.Event.{Event}
use Rattle.smb_link.specs.declared.event.Event.TheVariants as event
use Rattle.smb_link.specs.declared.mark.Mark.{Mark}
use Rattle.smb_link.specs.declared.mark.Mark.TheVariants as mark
use Rattle.smb_head.specs.Stream.{rest_in}
use Rattle.fs_plain.specs.Told.{Announcement, told_after}
use Rattle.fs_client.specs.Item.{Item, item_with}
use Rattle.fs_client.specs.View.{Setting, View, Client, no_view}
use Rattle.fs_client.specs.After.{made_whole, view_after, after, all_after}
use Rattle.fs_client.specs.May.{MayAnswerFor, MaySendFor, MaySendUnder, Mounting, Echo, LeavingTree, LeavingSession, May, Allowed}
use Rattle.fs_client.specs.Sane.{Sane}
use Rattle.fs_client.proofs.Landing.{all_looked_sane}
use Rattle.fs_client.proofs.Begins.{begin_stays}
use Rattle.fs_client.proofs.Marks.{announce_stays, told_sane}
use Rattle.fs_client.proofs.Answers.{answer_stays}
use Rattle.fs_client.proofs.Connections.{connection_sane}
use Rattle.fs_client.proofs.Sends.{sent_as, unmarked_sane, marked_sane}

mark_stays : (s : Setting) (c : Client) (m : Mark) → Sane c.view → May s c (event.Marked m) → Sane (view_after s c.view (event.Marked m))
mark_stays s c (mark.Begin number lane call) sane may = begin_stays s c.view number lane call sane may.above
mark_stays s c (mark.For number first count) sane may = announce_stays s c.view number first count sane
mark_stays s c (mark.Answer number a) sane may = by (item_with number c.view.items) refl may
  where
    by : (o : Option Item) → item_with number c.view.items ≡ o → IsSomeAnd o (MayAnswerFor c a) → Sane (view_after s c.view (event.Marked (mark.Answer number a)))
    by None runs may = absurd may
    by (Some i) runs may = answer_stays s c.view number a i sane runs may.idle
mark_stays s c (mark.Now time) sane may = told_sane c.view (view_after s c.view (event.Marked (mark.Now time))).told (record { owners = refl; begun = refl }) sane
mark_stays s c mark.End sane may = told_sane c.view (view_after s c.view (event.Marked mark.End)).told (record { owners = refl; begun = refl }) sane

sent_stays : (s : Setting) (c : Client) (frame : List ℕ) (announced : List Announcement) → Sane c.view → MaySendUnder announced s c frame → Sane (sent_as announced frame c.view)
sent_stays s c frame [] sane (Mounting m) = unmarked_sane c.view frame sane m.frame_is.next m.frame_is.some m.aside
sent_stays s c frame [] sane (Echo m) = unmarked_sane c.view frame sane m.frame_is.next m.frame_is.some m.aside
sent_stays s c frame [] sane (LeavingTree m) = unmarked_sane c.view frame sane m.frame_is.next m.frame_is.some m.aside
sent_stays s c frame [] sane (LeavingSession m) = unmarked_sane c.view frame sane m.frame_is.next m.frame_is.some m.aside
sent_stays s c frame (a ∷ []) sane may = by (item_with a.number c.view.items) refl may
  where
    by : (o : Option Item) → item_with a.number c.view.items ≡ o → IsSomeAnd o (MaySendFor s c a frame) → Sane (sent_as (a ∷ []) frame c.view)
    by None runs may = absurd may
    by (Some i) runs may = marked_sane c.view a frame i sane may.frame_is.next may.frame_is.some
        (record { count = may.count; first = ap (λ m. m.0) may.first }) runs may.idle may.asks
sent_stays s c frame (a ∷ b ∷ others) sane may = absurd may

-- bytes are got, and not looked at yet
abbrev got : List ℕ → View → View
got bytes v = record v { held = rest_in (v.held ++ bytes); told = told_after (event.Got bytes) (made_whole bytes v) v.told }

got_sane : (bytes : List ℕ) (v : View) → Sane v → Sane (got bytes v)
got_sane bytes v sane = record {
  flies = sane.flies;
  owned = sane.owned;
  apart = sane.apart;
  used = sane.used;
  begun = sane.begun;
  sent = sane.sent;
  rising = sane.rising;
  early = sane.early;
  no_place = sane.no_place;
  no_lease = sane.no_lease;
}

pub stays : (s : Setting) (c : Client) (e : Event) → Sane c.view → May s c e → Sane (view_after s c.view e)
stays s c (event.Marked m) sane may = mark_stays s c m sane may
stays s c (event.Sent frame) sane may = sent_stays s c frame c.view.told.announced sane may
stays s c (event.Got bytes) sane may = all_looked_sane (made_whole bytes c.view) (got bytes c.view) (got_sane bytes c.view sane)
stays s c event.Quiet sane may = sane
stays s c event.Joined sane may = connection_sane true c.view sane
stays s c event.NotJoined sane may = sane
stays s c event.Cut sane may = connection_sane false c.view sane
stays s c (event.Took mid) sane may = absurd may
stays s c (event.Pend mid) sane may = absurd may
stays s c (event.Act who request reply) sane may = absurd may
stays s c (event.Break key state) sane may = absurd may
stays s c (event.Dropped key) sane may = absurd may

-- before the first event
pub sane_at_first : Sane no_view
sane_at_first = record {
  flies = tt;
  owned = tt;
  apart = record {};
  used = tt;
  begun = tt;
  sent = tt;
  rising = record {};
  early = tt;
  no_place = refl;
  no_lease = refl;
}

-- and along all that it does
pub stays_along : (s : Setting) (events : List Event) (c : Client) → Sane c.view → Allowed s c events → Sane (all_after s c events).view
stays_along s [] c sane allowed = sane
stays_along s (e ∷ events) c sane allowed = stays_along s events (after s c e) (stays s c e sane allowed.0) allowed.1

-- A client that does what it may, at an honest share, makes no difference, and stays related to both shares.
use Rattle.std.proofs.Common.{◌≡◌, ◌∙◌, refl, sym, ap, subst, ℕ, ◌+◌, Bool, true, false, cond, not, List, [], ◌∷◌, Option, None}
use Rattle.share_state.specs.declared.share.Share.{Share}
use Rattle.share_state.specs.State.{Making}
use Rattle.smb_link.specs.declared.event.Event.{Event}
use Rattle.smb_link.specs.declared.event.Event.TheVariants as event
use Rattle.smb_link.specs.declared.mark.Mark.TheVariants as mark
use Rattle.smb_link.specs.Story.{is_of_share}
use Rattle.fs_plain.specs.World.{happens, share_after}
use Rattle.fs_plain.specs.Honest.{MayHappen, HonestFrom, start, IsHonest}
use Rattle.fs_plain.specs.Run.{Run}
use Rattle.fs_plain.specs.Differences.{Difference, first_of_two}
use Rattle.fs_plain.specs.PlainSide.{PlainSide, plain_side}
use Rattle.fs_plain.specs.Divergence.{side_after, judged_event, divergence_from, divergence, side_at}
use Rattle.fs_plain.proofs.AlikeLaws.{alike_start}
use Rattle.fs_client.specs.View.{Setting, Client, no_view, no_client}
use Rattle.fs_client.specs.After.{after, all_after, own}
use Rattle.fs_client.specs.May.{May, Allowed}
use Rattle.fs_client.proofs.Stays.{sane_at_first}
use Rattle.fs_refine.specs.Related.{IsOfRun, Related}
use Rattle.fs_refine.proofs.ShareEvents.{share_related}
use Rattle.fs_refine.proofs.Marks.{Keeps, begin_keeps, announce_keeps, answer_keeps, now_keeps, end_keeps}
use Rattle.fs_refine.proofs.Sending.{send_keeps}
use Rattle.fs_refine.proofs.Getting.{got_keeps}
use Rattle.fs_refine.proofs.Connections.{quiet_keeps, not_joined_keeps, join_keeps, cut_keeps}

-- an event of the client that it may do, and that may happen
pub own_keeps : (run : Run) (st : Setting) (s : Share) (p : PlainSide) (c : Client) (e : Event) → IsOfRun run st → Related s p c.view → MayHappen s e → May st c e → Keeps run st s p c.view e
own_keeps run st s p c (event.Marked (mark.Begin number lane call)) of old happens may = begin_keeps run st s p c number lane call of old may
own_keeps run st s p c (event.Marked (mark.For number first count)) of old happens may = announce_keeps run st s p c number first count old may
own_keeps run st s p c (event.Marked (mark.Answer number a)) of old happens may = answer_keeps run st s p c number a old may
own_keeps run st s p c (event.Marked (mark.Now time)) of old happens may = now_keeps run st s p c time old may
own_keeps run st s p c (event.Marked mark.End) of old happens may = end_keeps run st s p c old may
own_keeps run st s p c (event.Sent frame) of old happens may = send_keeps run st s p c frame old may
own_keeps run st s p c (event.Got bytes) of old happens may = got_keeps run st s p c.view bytes old happens
own_keeps run st s p c event.Quiet of old happens may = quiet_keeps run st s p c.view old
own_keeps run st s p c event.Joined of old happens may = join_keeps run st s p c old may
own_keeps run st s p c event.NotJoined of old happens may = not_joined_keeps run st s p c.view old
own_keeps run st s p c event.Cut of old happens may = cut_keeps run st s p c old may
own_keeps run st s p c (event.Took mid) of old happens may = absurd may
own_keeps run st s p c (event.Pend mid) of old happens may = absurd may
own_keeps run st s p c (event.Act who request reply) of old happens may = absurd may
own_keeps run st s p c (event.Break key state) of old happens may = absurd may
own_keeps run st s p c (event.Dropped key) of old happens may = absurd may

-- these events diverge nowhere, and what is related at their start is related at their end
pub record IsKept (run : Run) (st : Setting) (n : ℕ) (s : Share) (p : PlainSide) (c : Client) (events : List Event) : Type 0 where
  pub none : divergence_from run n s p events ≡ None
  pub related : Related (share_after s events) (side_at run s p events) (all_after st c (own events)).view

-- whatever the lists choose: of an honest share, and of a client that does what it may
pub kept : (run : Run) (st : Setting) (events : List Event) (n : ℕ) (s : Share) (p : PlainSide) (c : Client) → IsOfRun run st → Related s p c.view → HonestFrom s events → Allowed st c (own events)
    → IsKept run st n s p c events
kept run st [] n s p c of old honest allowed = record { none = refl; related = old }
kept run st (e ∷ events) n s p c of old honest allowed =
    by (is_of_share e) refl allowed (λ s' p' c' old' honest' allowed'. kept run st events (n + 1) s' p' c' of old' honest' allowed')
  where
    Later : Share → PlainSide → Client → Type 0
    Later s' p' c' = IsKept run st (n + 1) s' p' c' events

    first : judged_event run s p e ≡ None → divergence_from run (n + 1) (happens s e) (side_after run s p e) events ≡ None → divergence_from run n s p (e ∷ events) ≡ None
    first judged later = ap (λ (d : Option Difference). first_of_two n d (divergence_from run (n + 1) (happens s e) (side_after run s p e) events)) judged ∙ later

    by : (t : Bool) → is_of_share e ≡ t → Allowed st c (cond (not t) (e ∷ own events) (own events))
        → ((s' : Share) (p' : PlainSide) (c' : Client) → Related s' p' c'.view → HonestFrom s' events → Allowed st c' (own events) → IsKept run st (n + 1) s' p' c' events)
        → IsKept run st n s p c (e ∷ events)
    by true is allowed deeper =
        let k = share_related run s p c.view e is old honest.0 in
        let rest = deeper (happens s e) (side_after run s p e) c k.1 honest.1 allowed in
        record {
          none = first k.0 rest.none;
          related = subst (λ (b : Bool). Related (share_after s (e ∷ events)) (side_at run s p (e ∷ events)) (all_after st c (cond (not b) (e ∷ own events) (own events))).view) (sym is) rest.related;
        }
    by false is allowed deeper =
        let k = own_keeps run st s p c e of old honest.0 allowed.0 in
        let rest = deeper (happens s e) (side_after run s p e) (after st c e) k.1 honest.1 allowed.1 in
        record {
          none = first k.0 rest.none;
          related = subst (λ (b : Bool). Related (share_after s (e ∷ events)) (side_at run s p (e ∷ events)) (all_after st c (cond (not b) (e ∷ own events) (own events))).view) (sym is) rest.related;
        }

-- before the first event both shares and the client are related
pub related_first : (made : Making) (story : List Event) → Related (start made.room made.fold story) (plain_side made story) no_view
related_first made story = record {
  alike = alike_start made story;
  ours = refl;
  sane = sane_at_first;
  due = record {};
  early = refl;
  sent = refl;
  running = record {};
  told = refl;
  connected = refl;
  held = refl;
  described = refl;
  placed = tt;
  holders = record { opens = tt; calls = tt };
  cached = refl;
}

-- so a story that an honest share tells, and whose client does what it may, diverges nowhere
pub no_divergence : (run : Run) (st : Setting) (made : Making) (story : List Event) → IsOfRun run st → IsHonest made.room made.fold story → Allowed st no_client (own story) → divergence run made story ≡ None
no_divergence run st made story of honest allowed =
    (kept run st story 1 (start made.room made.fold story) (plain_side made story) no_client of (related_first made story) honest allowed).none

-- A frame that the client sends makes no difference, and what is related stays so.
use Rattle.std.proofs.Common.{arith, ◌≡◌, ◌∙◌, refl, sym, ap, subst, ℕ, ◌+◌, ◌<◌, Bool, true, false, if◌then◌else◌, List, [], ◌∷◌, ◌++◌, length, take, Option, Some, None, Result, Ok, Err}
use Rattle.std.specs.Prelude.{IsSomeAnd, map, is_none, nat_le, ◌&&◌}
use Rattle.std.specs.List.{AllByRecursion, list_all}
use Rattle.std.proofs.lemmas.Bool.{false≢true}
use Rattle.std.proofs.lemmas.Bool.Decides.{nat_tests}
use Rattle.smb_base.specs.declared.names.Mid.{Mid}
use Rattle.smb_chain.specs.declared.parts.BadNext.{BadNext}
use Rattle.share_state.specs.declared.connection.Sent.{Sent}
use Rattle.share_state.specs.declared.share.Share.{Share}
use Rattle.smb_link.specs.declared.event.Event.{Event}
use Rattle.smb_link.specs.declared.event.Event.TheVariants as event
use Rattle.smb_link.specs.Program.{Known}
use Rattle.fs_plain.specs.Requests.{wire_request}
use Rattle.fs_plain.specs.World.{waiting, requests_among, requests_in, happens}
use Rattle.fs_plain.specs.Run.{Run}
use Rattle.fs_plain.specs.Differences.{odd_unless}
use Rattle.fs_plain.specs.Owners.{mids_in, mids_among, from}
use Rattle.fs_plain.specs.Paired.{Pair}
use Rattle.fs_plain.specs.Told.{Told, Announcement, owned_in, is_outside, told_by_frame}
use Rattle.fs_plain.specs.PlainSide.{PlainCall, PlainSide}
use Rattle.fs_plain.specs.Divergence.{holds_announced, side_after, judged_event}
use Rattle.fs_plain.proofs.AlikeLaws.{alike_beside, alike_calls}
use Rattle.fs_client.specs.Item.{Item, item_with, flown}
use Rattle.fs_client.specs.View.{Setting, View, Client}
use Rattle.fs_client.specs.After.{parts_sent, frame_of, costs_among, items_sent}
use Rattle.fs_client.specs.Spelled.{AreNext}
use Rattle.fs_client.specs.May.{MaySendFor, MaySendUnder, Mounting, Echo, LeavingTree, LeavingSession, May}
use Rattle.fs_client.specs.Owing.{taken}
use Rattle.fs_client.specs.Sane.{Sane}
use Rattle.fs_client.proofs.Lists.{some_is}
use Rattle.fs_client.proofs.Frames.{IsFirst, whole_from, whole_take}
use Rattle.fs_client.proofs.Sends.{sent_as, IsWhole}
use Rattle.fs_client.proofs.Stays.{stays}
use Rattle.fs_client.proofs.Steps.{sends}
use Rattle.fs_client.proofs.Taken.{Commutes, unmarked_commutes, marked_commutes}
use Rattle.fs_refine.specs.Calls.{IsCall, AreCalls}
use Rattle.fs_refine.specs.Related.{calm, Related}
use Rattle.fs_refine.proofs.CallLists.{calls_sent}
use Rattle.fs_refine.proofs.Holding.{same_holds}
use Rattle.fs_refine.proofs.Taking.{cached_along}
use Rattle.fs_refine.proofs.Marks.{Keeps, item_taken}

-- a request as it is sent is not put off
calm_among : (frame : Mid) (parts : List (Result (List ℕ) BadNext)) → map calm (requests_among frame parts) ≡ requests_among frame parts
calm_among frame [] = refl
calm_among frame (Err bad ∷ parts) = calm_among frame parts
calm_among frame (Ok message ∷ parts) = by (is_none (wire_request message)) (calm_among frame parts)
  where
    by : (t : Bool) → map calm (requests_among frame parts) ≡ requests_among frame parts
        → map calm (if t then requests_among frame parts else waiting frame message ∷ requests_among frame parts) ≡ (if t then requests_among frame parts else waiting frame message ∷ requests_among frame parts)
    by true deeper = deeper
    by false deeper = ap (λ (l : List Sent). waiting frame message ∷ l) deeper

map_append : (f : Sent → Sent) (xs ys : List Sent) → map f (xs ++ ys) ≡ map f xs ++ map f ys
map_append f [] ys = refl
map_append f (x ∷ xs) ys = ap (λ (l : List Sent). f x ∷ l) (map_append f xs ys)

-- the share with a frame that waits
abbrev waiting_too : List ℕ → Share → Share
waiting_too frame s = record s { sent = s.sent ++ requests_in frame }

-- the plain side, told of a frame
abbrev told_sent : List ℕ → PlainSide → Event → PlainSide
told_sent frame p e = record p { told = told_by_frame (mids_in frame) p.told; to_do = Rattle.fs_plain.specs.Divergence.deeds_left e p.to_do }

record Sending (s : Share) (p : PlainSide) (v w : View) (announced : List Announcement) (frame : List ℕ) : Type 0 where
  marks : v.told.announced ≡ announced
  commutes : Commutes (sends announced (frame_of frame) (requests_in frame) (v.next + costs_among (parts_sent frame)) w.told) s.owed v w
  sane : Sane w
  running : AreCalls p.pairs s.opens_made (items_sent announced (frame_of frame) (taken s.owed v).items) p.running

sending_related : (s : Share) (p : PlainSide) (v : View) (announced : List Announcement) (frame : List ℕ) → Related s p v → Sending s p v (sent_as announced frame v) announced frame
    → Related (waiting_too frame s) (told_sent frame p (event.Sent frame)) (sent_as announced frame v)
sending_related s p v announced frame old sending =
    let p' : PlainSide = told_sent frame p (event.Sent frame) in
    let w : View = sent_as announced frame v in
    record {
      alike = alike_beside s (waiting_too frame s) p' refl (alike_calls s p p' refl refl refl old.alike);
      ours = old.ours;
      sane = sending.sane;
      due = sending.commutes.due;
      early = old.early;
      sent = map_append calm s.sent (requests_in frame)
          ∙ ap (λ (l : List Sent). l ++ map calm (requests_in frame)) old.sent
          ∙ ap (λ (l : List Sent). (taken s.owed v).flights ++ l) (calm_among (frame_of frame) (parts_sent frame))
          ∙ sym (ap (λ (u : View). u.flights) sending.commutes.is);
      running = subst (λ (u : View). AreCalls p.pairs s.opens_made u.items p.running) (sym sending.commutes.is) sending.running;
      told = ap (told_by_frame (mids_in frame)) old.told
          ∙ ap (λ (l : List Announcement). record v.told { owners = owned_in (mids_in frame) l ++ Rattle.std.specs.Prelude.filter (is_outside (mids_in frame)) v.told.owners; announced = [] }) sending.marks;
      connected = old.connected;
      held = old.held;
      described = old.described;
      placed = old.placed;
      holders = same_holds p p' refl refl old.holders.opens old.holders;
      cached = cached_along (waiting_too frame s) p' s.owed w (record { sane = sending.sane; early = old.early }) sending.commutes.due;
    }

-- the whole event
sending_keeps : (run : Run) (st : Setting) (s : Share) (p : PlainSide) (v : View) (announced : List Announcement) (frame : List ℕ) → Related s p v → v.told.announced ≡ announced → v.connected ≡ true
    → holds_announced (mids_in frame) announced ≡ true → Sending s p v (sent_as announced frame v) announced frame → Keeps run st s p v (event.Sent frame)
sending_keeps run st s p v announced frame old marks stands holds sending = (
  ap (λ (t : Told). odd_unless (holds_announced (mids_in frame) t.announced)) old.told
      ∙ ap (λ (l : List Announcement). odd_unless (holds_announced (mids_in frame) l)) marks ∙ ap odd_unless holds,
  subst (λ (w : View). Related (happens s (event.Sent frame)) (side_after run s p (event.Sent frame)) w) (sym (ap (λ (l : List Announcement). sent_as l frame v) marks))
      (subst (λ (t : Share). Related t (side_after run s p (event.Sent frame)) (sent_as announced frame v))
      (sym (ap (λ (b : Bool). if b then waiting_too frame s else s) (old.connected ∙ stands)))
      (sending_related s p v announced frame old sending)),
)

-- a frame without a mark
unmarked_keeps : (run : Run) (st : Setting) (s : Share) (p : PlainSide) (c : Client) (frame : List ℕ) → Related s p c.view → c.view.told.announced ≡ [] → c.view.connected ≡ true
    → AreNext c.view.next (parts_sent frame) → 0 < length (parts_sent frame) → May st c (event.Sent frame) → Keeps run st s p c.view (event.Sent frame)
unmarked_keeps run st s p c frame old marks stands ids some may =
    sending_keeps run st s p c.view [] frame old marks stands refl (record {
      marks = marks;
      commutes = unmarked_commutes s.owed c.view frame old.sane old.early old.due ids some;
      sane = subst Sane (ap (λ (l : List Announcement). sent_as l frame c.view) marks) (stays st c (event.Sent frame) old.sane may);
      running = old.running;
    })

-- one under a mark
le_itself : (n : ℕ) → nat_le n n ≡ true
le_itself n = grind (arith, nat_tests)

begins_with : (first : Mid) (next : ℕ) (parts : List (Result (List ℕ) BadNext)) → AreNext next parts → first.0 ≡ next → IsFirst first (mids_among parts)
begins_with first next [] ids is = record {}
begins_with first next (Err bad ∷ parts) ids is = absurd ids
begins_with first next (Ok message ∷ parts) ids is = ids.0 ∙ sym is

flown_call : (pairs : List Pair) (made : ℕ) (frame : Mid) (known : Known) (i : Item) (c : PlainCall) → i.broken ≡ false → i.announced ≡ true → IsCall pairs made i c → IsCall pairs made (flown frame known i) c
flown_call pairs made frame known i c whole announced is = record {
  number = is.number;
  lane = is.lane;
  call = is.call;
  announced = is.announced;
  file = is.file;
  along = λ w. record { rest = (is.along w).rest; opened = (is.along w).opened; given = (is.along w).given };
  parted = λ broken. absurd (false≢true (sym whole ∙ broken));
  unsent = λ none. absurd (false≢true (sym none ∙ announced));
  unopened = is.unopened;
}

marked_keeps : (run : Run) (st : Setting) (s : Share) (p : PlainSide) (c : Client) (a : Announcement) (frame : List ℕ) (i : Item) → Related s p c.view → c.view.told.announced ≡ a ∷ []
    → item_with a.number c.view.items ≡ Some i → MaySendFor st c a frame i → May st c (event.Sent frame) → Keeps run st s p c.view (event.Sent frame)
marked_keeps run st s p c a frame i old marks runs may allowed =
    let v : View = c.view in
    let whole : IsWhole a frame v = record { count = may.count; first = ap (λ (m : Mid). m.0) may.first } in
    let ids : take a.count (from a.first (mids_in frame)) ≡ mids_in frame =
    ap (take a.count) (whole_from a.first (mids_in frame) (begins_with a.first v.next (parts_sent frame) may.frame_is.next whole.first))
    ∙ ap (λ (n : ℕ). take n (mids_in frame)) may.count ∙ whole_take (mids_in frame) in
    sending_keeps run st s p v (a ∷ []) frame old marks may.frame_is.connected
    (ap (λ (l : List Mid). nat_le a.count (length l) && true) ids ∙ ap (λ (n : ℕ). nat_le n (length (mids_in frame)) && true) may.count ∙ ap (λ (b : Bool). b && true) (le_itself (length (mids_in frame))))
    (record {
      marks = marks;
      commutes = marked_commutes s.owed v a frame i old.sane old.early old.due may.frame_is.next may.frame_is.some whole runs may.idle;
      sane = subst Sane (ap (λ (l : List Announcement). sent_as l frame v) marks) (stays st c (event.Sent frame) old.sane allowed);
      running = calls_sent p.pairs s.opens_made a.number (flown (frame_of frame) a.known) (taken s.owed v).items p.running
          (λ j d there is. flown_call p.pairs s.opens_made (frame_of frame) a.known j d
          (ap (λ (k : Item). k.broken) (same j there) ∙ may.whole) (ap (λ (k : Item). k.announced) (same j there) ∙ may.announced) is) old.running;
    })
  where
    same : (j : Item) → item_with a.number (taken s.owed c.view).items ≡ Some j → j ≡ i
    same j there = some_is j i (sym there ∙ item_taken s p c.view a.number i old runs may.idle)

pub send_keeps : (run : Run) (st : Setting) (s : Share) (p : PlainSide) (c : Client) (frame : List ℕ) → Related s p c.view → May st c (event.Sent frame) → Keeps run st s p c.view (event.Sent frame)
send_keeps run st s p c frame old may = by c.view.told.announced refl may
  where
    by : (announced : List Announcement) → c.view.told.announced ≡ announced → MaySendUnder announced st c frame → Keeps run st s p c.view (event.Sent frame)
    by [] marks (Mounting m) = unmarked_keeps run st s p c frame old marks m.frame_is.connected m.frame_is.next m.frame_is.some may
    by [] marks (Echo m) = unmarked_keeps run st s p c frame old marks m.frame_is.connected m.frame_is.next m.frame_is.some may
    by [] marks (LeavingTree m) = unmarked_keeps run st s p c frame old marks m.frame_is.connected m.frame_is.next m.frame_is.some may
    by [] marks (LeavingSession m) = unmarked_keeps run st s p c frame old marks m.frame_is.connected m.frame_is.next m.frame_is.some may
    by (a ∷ []) marks for = at (item_with a.number c.view.items) refl for
      where
        at : (o : Option Item) → item_with a.number c.view.items ≡ o → IsSomeAnd o (MaySendFor st c a frame) → Keeps run st s p c.view (event.Sent frame)
        at None runs for = absurd for
        at (Some i) runs for = marked_keeps run st s p c a frame i old marks runs for may
    by (a ∷ b ∷ others) marks for = absurd for

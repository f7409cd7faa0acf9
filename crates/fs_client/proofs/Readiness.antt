-- A client that does what it may uses no id that was not granted, and the replies to what it has in flight leave nothing out.
use Rattle.std.proofs.Common.{arith, ◌≡◌, ◌∙◌, refl, sym, ap, subst, ℕ, zero, suc, ◌+◌, ◌^◌, ◌==◌, ◌<◌, ◌≤◌, min, Bool, true, false, if◌then◌else◌, not, ◌&&◌, List, [], ◌∷◌, ◌++◌, length, Option, Some, None, Result, Ok, Err, nat_lt}
use Rattle.std.specs.Prelude.{IsSomeAnd, MatchBool, map, bit_and, is_some, is_none}
use Rattle.std.specs.List.{AllByRecursion}
use Rattle.smb_base.specs.declared.names.Fid.{Fid}
use Rattle.smb_base.specs.declared.names.Mid.{Mid}
use Rattle.smb_le.specs.declared.flags.ServerCaps.{ServerCaps}
use Rattle.smb_le.specs.Numbers.{number_at}
use Rattle.smb_chain.specs.declared.parts.BadNext.{BadNext}
use Rattle.smb_credit.specs.Window.{no_request}
use Rattle.smb_head.specs.declared.command.TheConstants.{CREATE, QUERY_INFO}
use Rattle.smb_head.specs.declared.head.Head.{Head}
use Rattle.smb_head.specs.declared.head.HeadFault.{HeadFault}
use Rattle.smb_head.specs.declared.head.HeadFault.TheVariants.{Short, Magic, Size}
use Rattle.smb_head.specs.declared.head.TheConstants.{PROTOCOL}
use Rattle.smb_head.specs.declared.request.Request.{Request}
use Rattle.smb_head.specs.Header.{head_of, head_at}
use Rattle.smb_head.specs.Stream.{rest_in}
use Rattle.smb_field.specs.Rows.{if_read}
use Rattle.smb_body_b.specs.Create.{create_request_of}
use Rattle.smb_body_b.specs.Contexts.{read_of}
use Rattle.smb_body_c.specs.Info.{query_info_request_of}
use Rattle.smb_mount.specs.declared.facts.Facts.{Facts}
use Rattle.smb_mount.specs.Requests.{charge_of, negotiate, session_setup, tree_connect}
use Rattle.smb_mount.specs.Tokens.{negotiate_token, authenticate_token}
use Rattle.share_state.specs.declared.connection.LastCreate.TheVariants as last
use Rattle.share_state.specs.declared.connection.Sent.{Sent}
use Rattle.share_state.specs.declared.request.Rep.{Rep}
use Rattle.share_state.specs.declared.request.RepBody.TheVariants as body
use Rattle.share_state.specs.PlainShare.{shown}
use Rattle.share_state.specs.Sent.{behind_create}
use Rattle.smb_link.specs.declared.event.Event.{Event}
use Rattle.smb_link.specs.declared.event.Event.TheVariants as event
use Rattle.smb_link.specs.Program.{File, Wish, Program, Known, Ask, Look, Say, settled}
use Rattle.fs_plain.specs.Masked.{Untold, untold_of_class, untold_of_contexts, untold_with, untold}
use Rattle.fs_plain.specs.Requests.{WireRequest, wire_request}
use Rattle.fs_plain.specs.Replies.{reply_in}
use Rattle.fs_plain.specs.Paired.{open_given}
use Rattle.fs_plain.specs.World.{mid_of, waiting, is_creating, is_first_of_frame, refusal_before, came_to, requests_in, requests_among}
use Rattle.fs_plain.specs.Told.{Announcement, told_after}
use Rattle.fs_client.specs.Item.{Item, item_with, fids_after}
use Rattle.fs_client.specs.View.{Setting, View, Client, no_client}
use Rattle.fs_client.specs.After.{parts_sent, frame_of, costs_among, granted_by, granted_among, made_whole, after, all_after}
use Rattle.fs_client.specs.Asked.{creates, is_refused, refused_as, fits, behind_it}
use Rattle.fs_client.specs.Flies.{AsksNext, FliesAs, files_of}
use Rattle.fs_client.specs.Looks.{awaited_with, answers_aside, went, in_turn, drained_with, drained, landed_by, without, looked_reply, looked_as, looked_for, looked, all_looked}
use Rattle.fs_client.specs.May.{MaySendFor, MaySendUnder, IsAside, Mounting, Echo, LeavingTree, LeavingSession, May, Allowed}
use Rattle.fs_client.specs.Mount.{Stage, Unmounted, Agreed, Challenging, InSession, Mounted, asked_at}
use Rattle.fs_client.specs.Spelled.{request_for, IsFrameOf}
use Rattle.fs_client.specs.Ready.{AreWhole, IsReady}
use Rattle.fs_client.proofs.Lists.{none_some, some_is, itself, all_more, all_append, all_filter}
use Rattle.fs_client.proofs.Flights.{it_message, in_flies}
use Rattle.fs_client.proofs.Frames.{IsOf, are_of}
use Rattle.fs_client.proofs.Ids.{costs_sent, ids_granted}
use Rattle.fs_client.proofs.Judging.{looked_next}
use Rattle.fs_client.proofs.Commands.{aside_command}
use Rattle.fs_client.proofs.Landing.{all_left}

-- what the client sends costs no more ids than were granted: each charge is small
charge_small : (caps : ServerCaps) → charge_of caps < 2 ^ 16
charge_small caps = by (bit_and caps.0 4 == 4)
  where
    by : (t : Bool) → (if t then 1 else 0) < 2 ^ 16
    by true = omega arith
    by false = omega arith

no_charge : 0 < 2 ^ 16
no_charge = omega arith

wishes_small : (facts : Facts) (fid : File → Fid) (wishes : List (Bool × Wish)) → AllByRecursion (λ (r : Request). r.charge < 2 ^ 16) (map (request_for facts fid) wishes)
wishes_small facts fid [] = tt
wishes_small facts fid (w ∷ wishes) = (charge_small facts.caps, wishes_small facts fid wishes)

asked_small : (stage : Stage) (request : Request) → asked_at stage ≡ Some request → request.charge < 2 ^ 16
asked_small (Unmounted k) request is = subst (λ (r : Request). r.charge < 2 ^ 16) (some_is (negotiate k.guid) request is) no_charge
asked_small (Agreed k) request is =
    subst (λ (r : Request). r.charge < 2 ^ 16) (some_is (session_setup k.server.caps 0 k.previous negotiate_token) request is) (charge_small k.server.caps)
asked_small (Challenging k) request is =
    subst (λ (r : Request). r.charge < 2 ^ 16) (some_is (session_setup k.server.caps k.session k.previous authenticate_token) request is) (charge_small k.server.caps)
asked_small (InSession k) request is =
    subst (λ (r : Request). r.charge < 2 ^ 16) (some_is (tree_connect k.server.caps k.session k.path) request is) (charge_small k.server.caps)
asked_small (Mounted facts) request is = absurd (none_some request is)

-- the next id once a frame is sent is one that was granted, or the one behind them
abbrev pub Within : Client → List ℕ → Type 0
Within c frame = c.view.next + costs_among (parts_sent frame) ≤ c.tally.granted

within : (rs : List Request) (c : Client) (frame : List ℕ) → IsFrameOf rs c frame → AllByRecursion (λ (r : Request). r.charge < 2 ^ 16) rs → Within c frame
within rs c frame is charges = subst (λ (n : ℕ). c.view.next + n ≤ c.tally.granted) (sym (costs_sent rs c frame is charges)) is.granted

-- a request of the connection itself leaves nothing out
record IsOther (command : ℕ) : Type 0 where
  query : (command == QUERY_INFO) ≡ false
  create : (command == CREATE) ≡ false

pub aside_whole : (m : List ℕ) → wire_request m ≡ Some WireRequest.Aside → untold m ≡ Untold.Nothing
unfolding untold head_of head_at
aside_whole m is =
    let other = aside_command IsOther m (
      record { query = refl; create = refl },
      (
        record { query = refl; create = refl },
        (
          record { query = refl; create = refl },
          (
            record { query = refl; create = refl },
            (
              record { query = refl; create = refl },
              (record { query = refl; create = refl }, tt),
            ),
          ),
        ),
      ),
    ) is in
    by other
    (nat_lt (length m) 64) (number_at 4 0 m == PROTOCOL) (number_at 2 4 m == 64)
  where
    by : IsOther (head_at m).command → (a b c : Bool) → untold_with (if a then Err Short else if b then (if c then Ok (head_at m) else Err Size) else Err Magic) m ≡ Untold.Nothing
    by other true b c = refl
    by other false true true =
        ap (λ (t : Bool). if t then if_read (query_info_request_of m) (λ x. untold_of_class x.class) Untold.Nothing
        else if (head_at m).command == CREATE then if_read (create_request_of m) (λ x. untold_of_contexts (read_of false x.contexts)) Untold.Nothing else Untold.Nothing) other.query
        ∙ ap (λ (t : Bool). if t then if_read (create_request_of m) (λ x. untold_of_contexts (read_of false x.contexts)) Untold.Nothing else Untold.Nothing) other.create
    by other false true false = refl
    by other false false c = refl

asides_whole : (xs : List Sent) → AllByRecursion IsAside xs → AreWhole xs
asides_whole xs asides = all_more IsAside (λ (x : Sent). untold x.message ≡ Untold.Nothing) xs (λ x aside. aside_whole x.message aside) asides

-- the requests of a call are each asked where all before them have success: none of them leaves anything out
record Clear (seen : Sent → Sent) (x : Sent) : Type 0 where
  message : (seen x).message ≡ x.message
  none : refusal_before (seen x).last_create ≡ None

not_refused : (y : Sent) → refusal_before y.last_create ≡ None → is_refused y ≡ false
not_refused y none = by (wire_request y.message)
  where
    either : (t : Bool) → is_some (if t then refusal_before y.last_create else None) ≡ false
    either true = ap is_some none
    either false = refl

    by : (w : Option WireRequest) → refused_as w y.last_create ≡ false
    by None = refl
    by (Some WireRequest.Aside) = refl
    by (Some (WireRequest.Share related r)) = either (related && not (is_creating r))

-- a reply of success: an open to a CREATE, nothing to another request
abbrev some_fid : Fid
some_fid = record { persistent = 1; volatile = 1 }

abbrev success : Bool → Rep
success true = record { status = record { 0 = 0 }; body = body.Opened some_fid 1 0 0x80 0 false }
success false = record { status = record { 0 = 0 }; body = body.None }

success_fits : (x : Sent) → fits x (success (creates x)) ≡ true
success_fits x = by (creates x)
  where
    by : (t : Bool) → (if t && (success t).status.0 == 0 then is_some (open_given (success t).body) else is_none (open_given (success t).body)) ≡ true
    by true = refl
    by false = refl

clear_behind : (x y : Sent) → refusal_before y.last_create ≡ None → refusal_before (behind_it x (success (creates x)) y).last_create ≡ None
clear_behind x y none = by (creates x)
  where
    there : (t : Bool) → refusal_before (if t then record y { last_create = last.Opened some_fid } else y).last_create ≡ None
    there true = refl
    there false = none

    by : (t : Bool) → refusal_before (if t then behind_create x.frame (came_to (success t) (success t).body) y else y).last_create ≡ None
    by true = there (y.frame.0 == x.frame.0)
    by false = none

flies_whole : (files : List Fid → File → Fid) (known : Known) (frame : Mid) (seen : Sent → Sent) (p : Program) (fids : List Fid) (xs : List Sent)
    → AllByRecursion (λ (x : Sent). (x.frame.0 == frame.0) ≡ true) xs → AllByRecursion (Clear seen) xs → FliesAs files known frame seen p fids xs → AreWhole xs
flies_whole files known frame seen p fids [] at clear f = tt
flies_whole files known frame seen p fids (x ∷ xs) at clear f =
    by (settled known p)
    (subst (λ (b : Bool). MatchBool b (FliesAs files known frame seen p fids xs) (AsksNext files (seen x) fids (settled known p) Then)) (not_refused (seen x) clear.0.none)
    (in_flies files known frame seen p fids x xs at.0 f))
    (λ seen' p' fids' clear' f'. flies_whole files known frame seen' p' fids' xs at.1 clear' f')
  where
    Then : Program → Rep → Type 0
    Then rest reply = FliesAs files known frame (λ y. behind_it (seen x) reply (seen y)) rest (fids_after reply fids) xs

    reply : Rep
    reply = success (creates (seen x))

    by : (q : Program) → AsksNext files (seen x) fids q Then
        → ((seen' : Sent → Sent) (p' : Program) (fids' : List Fid) → AllByRecursion (Clear seen') xs → FliesAs files known frame seen' p' fids' xs → AreWhole xs) → AreWhole (x ∷ xs)
    by (Ask wish rest) h deeper = (
      sym (ap untold clear.0.message) ∙ h.0.1,
      deeper (λ y. behind_it (seen x) reply (seen y)) (rest (shown reply)) (fids_after reply fids)
          (all_more (Clear seen) (Clear (λ y. behind_it (seen x) reply (seen y))) xs
          (λ y c. record { message = it_message (seen x) reply (seen y) ∙ c.message; none = clear_behind (seen x) (seen y) c.none }) clear.1)
          (h.1 reply (success_fits (seen x))),
    )
    by (Look rest) h deeper = absurd h
    by (Say answer) h deeper = absurd h

-- a request as it is sent knows of no CREATE before it
all_clear : (frame : Mid) (parts : List (Result (List ℕ) BadNext)) → AllByRecursion (Clear (λ x. x)) (requests_among frame parts)
all_clear frame [] = tt
all_clear frame (Err bad ∷ parts) = all_clear frame parts
all_clear frame (Ok message ∷ parts) = by (is_none (wire_request message)) (all_clear frame parts)
  where
    by : (t : Bool) → AllByRecursion (Clear (λ x. x)) (requests_among frame parts)
        → AllByRecursion (Clear (λ x. x)) (if t then requests_among frame parts else waiting frame message ∷ requests_among frame parts)
    by true deeper = deeper
    by false deeper = (record { message = refl; none = refl }, deeper)

pub call_whole : (st : Setting) (c : Client) (a : Announcement) (frame : List ℕ) (i : Item) → MaySendFor st c a frame i → AreWhole (requests_in frame)
call_whole st c a frame i may =
    flies_whole (files_of i c.view.placed) a.known (frame_of frame) (λ x. x) i.rest i.fids (requests_in frame)
    (all_more (IsOf (frame_of frame) c.view.next (c.view.next + costs_among (parts_sent frame))) (λ (x : Sent). (x.frame.0 == (frame_of frame).0) ≡ true) (requests_in frame)
    (λ x of. subst (λ (m : Mid). (m.0 == (frame_of frame).0) ≡ true) (sym of.frame_is) (itself (frame_of frame).0)) (are_of (frame_of frame) c.view.next (parts_sent frame) may.frame_is.next))
    (all_clear (frame_of frame) (parts_sent frame)) may.asks

-- a frame of any kind
pub record IsFair (c : Client) (frame : List ℕ) : Type 0 where
  pub ids : Within c frame
  pub whole : AreWhole (requests_in frame)

pub frame_fair : (st : Setting) (c : Client) (frame : List ℕ) (announced : List Announcement) → MaySendUnder announced st c frame → IsFair c frame
frame_fair st c frame [] (Mounting m) = record { ids = within (m.request ∷ []) c frame m.frame_is (asked_small m.stage m.request m.asks, tt); whole = asides_whole (requests_in frame) m.aside }
frame_fair st c frame [] (Echo m) = record { ids = within (_ ∷ []) c frame m.frame_is (charge_small m.facts.caps, tt); whole = asides_whole (requests_in frame) m.aside }
frame_fair st c frame [] (LeavingTree m) = record { ids = within (_ ∷ []) c frame m.frame_is (charge_small m.facts.caps, tt); whole = asides_whole (requests_in frame) m.aside }
frame_fair st c frame [] (LeavingSession m) = record { ids = within (_ ∷ []) c frame m.frame_is (charge_small m.facts.caps, tt); whole = asides_whole (requests_in frame) m.aside }
frame_fair st c frame (a ∷ []) may = by (item_with a.number c.view.items) may
  where
    by : (o : Option Item) → IsSomeAnd o (MaySendFor st c a frame) → IsFair c frame
    by None may = absurd may
    by (Some i) may = record {
      ids = within (map (request_for may.facts (files_of i c.view.placed i.fids)) may.wishes) c frame may.frame_is (wishes_small may.facts (files_of i c.view.placed i.fids) may.wishes);
      whole = call_whole st c a frame i may;
    }
frame_fair st c frame (a ∷ b ∷ others) may = absurd may

-- looking adds no request and uses no id
pub went_whole : (x : Sent) (reply : Rep) (v : View) → AreWhole v.flights → AreWhole (went x reply v).flights
went_whole x reply v whole = all_left (λ (y : Sent). untold y.message ≡ Untold.Nothing) x reply v.flights (λ y is. ap untold (it_message x reply y) ∙ is) whole

drained_whole : (n : ℕ) (v : View) → AreWhole v.flights → AreWhole (drained n v).flights
drained_whole zero v whole = whole
drained_whole (suc n) v whole = by (in_turn v.flights v.early) (λ u. drained_whole n u)
  where
    by : (o : Option (Sent × Rep)) → ((u : View) → AreWhole u.flights → AreWhole (drained n u).flights) → AreWhole (drained_with o (drained n) v).flights
    by None others = whole
    by (Some next) others = others (went next.0 next.1 v) (went_whole next.0 next.1 v whole)

looked_whole : (message : List ℕ) (v : View) → AreWhole v.flights → AreWhole (looked message v).flights
looked_whole message v whole = by (awaited_with (mid_of message) v)
  where
    landed : (x : Sent) (reply : Rep) (t : Bool)
        → AreWhole (if t then drained (length v.early) (went x reply v) else record v { early = v.early ++ (x.mid, reply) ∷ [] }).flights
    landed x reply true = drained_whole (length v.early) (went x reply v) (went_whole x reply v whole)
    landed x reply false = whole

    fit : (x : Sent) (reply : Rep) (t : Bool) → AreWhole (if t then landed_by (Some x) reply v else v).flights
    fit x reply true = landed x reply (is_first_of_frame v.flights x)
    fit x reply false = whole

    at_reply : (x : Sent) (o : Option Rep) → AreWhole (looked_reply o x v).flights
    at_reply x None = whole
    at_reply x (Some reply) = fit x reply (fits x reply)

    gone : (x : Sent) (t : Bool) → AreWhole (if t then without x.mid v else v).flights
    gone x true = all_filter (λ (y : Sent). untold y.message ≡ Untold.Nothing) (λ (y : Sent). not (y.mid.0 == x.mid.0)) v.flights whole
    gone x false = whole

    asked : (x : Sent) (w : Option WireRequest) → AreWhole (looked_as w x message v).flights
    asked x None = whole
    asked x (Some WireRequest.Aside) = gone x (answers_aside x message v.told.owners)
    asked x (Some (WireRequest.Share related request)) = at_reply x (reply_in x.mid x.message message)

    by : (o : Option Sent) → AreWhole (looked_for o message v).flights
    by None = whole
    by (Some x) = asked x (wire_request x.message)

pub all_looked_whole : (parts : List (Result (List ℕ) BadNext)) (v : View) → AreWhole v.flights → AreWhole (all_looked parts v).flights
all_looked_whole [] v whole = whole
all_looked_whole (Err bad ∷ parts) v whole = all_looked_whole parts v whole
all_looked_whole (Ok message ∷ parts) v whole = all_looked_whole parts (looked message v) (looked_whole message v whole)

pub all_looked_next : (parts : List (Result (List ℕ) BadNext)) (v : View) → (all_looked parts v).next ≡ v.next
all_looked_next [] v = refl
all_looked_next (Err bad ∷ parts) v = all_looked_next parts v
all_looked_next (Ok message ∷ parts) v = all_looked_next parts (looked message v) ∙ looked_next message v

-- messages take no id back
pub granted_rises : (parts : List (Result (List ℕ) BadNext)) (next n : ℕ) → next ≤ n → n ≤ no_request → next ≤ granted_among parts n
granted_rises [] next n le below = le
granted_rises (Err bad ∷ parts) next n le below = granted_rises parts next n le below
granted_rises (Ok message ∷ parts) next n le below =
    granted_rises parts next (granted_by (head_of message) n) (one (head_of message)) (ids_granted (Ok message ∷ []) next n below).1
  where
    more : (a b c : ℕ) → a ≤ b → b ≤ no_request → a ≤ min (b + c) no_request
    more a b c le below = omega (arith, le, below)

    one : (h : Result Head HeadFault) → next ≤ granted_by h n
    one (Err fault) = le
    one (Ok head) = more next n head.credits le below

-- before the first event, and along all that the client does
pub ready_first : IsReady no_client
ready_first = record { used = omega arith; granted = omega arith; whole = tt }

pub got_ready : (st : Setting) (c : Client) (bytes : List ℕ) → IsReady c → IsReady (after st c (event.Got bytes))
got_ready st c bytes ready =
    let parts : List (Result (List ℕ) BadNext) = made_whole bytes c.view in
    let u : View = record c.view { held = rest_in (c.view.held ++ bytes); told = told_after (event.Got bytes) parts c.view.told } in
    record {
      used = subst (λ (n : ℕ). n ≤ granted_among parts c.tally.granted) (sym (all_looked_next parts u)) (granted_rises parts c.view.next c.tally.granted ready.used ready.granted);
      granted = (ids_granted parts c.view.next c.tally.granted ready.granted).1;
      whole = all_looked_whole parts u ready.whole;
    }

pub sent_ready : (st : Setting) (c : Client) (frame : List ℕ) → MaySendUnder c.view.told.announced st c frame → IsReady c → IsReady (after st c (event.Sent frame))
sent_ready st c frame may ready =
    let f = frame_fair st c frame c.view.told.announced may in
    record {
      used = f.ids;
      granted = ready.granted;
      whole = all_append (λ (x : Sent). untold x.message ≡ Untold.Nothing) c.view.flights (requests_in frame) ready.whole f.whole;
    }

pub ready_keeps : (st : Setting) (c : Client) (e : Event) → May st c e → IsReady c → IsReady (after st c e)
ready_keeps st c (event.Marked m) may ready = record { used = ready.used; granted = ready.granted; whole = ready.whole }
ready_keeps st c (event.Sent frame) may ready = sent_ready st c frame may ready
ready_keeps st c (event.Got bytes) may ready = got_ready st c bytes ready
ready_keeps st c event.Quiet may ready = record { used = ready.used; granted = ready.granted; whole = ready.whole }
ready_keeps st c event.Joined may ready = record { used = omega arith; granted = omega arith; whole = tt }
ready_keeps st c event.NotJoined may ready = record { used = ready.used; granted = ready.granted; whole = ready.whole }
ready_keeps st c event.Cut may ready = record { used = omega arith; granted = omega arith; whole = tt }
ready_keeps st c (event.Took mid) may ready = absurd may
ready_keeps st c (event.Pend mid) may ready = absurd may
ready_keeps st c (event.Act who request reply) may ready = absurd may
ready_keeps st c (event.Break key state) may ready = absurd may
ready_keeps st c (event.Dropped key) may ready = absurd may

pub ready_along : (st : Setting) (events : List Event) (c : Client) → Allowed st c events → IsReady c → IsReady (all_after st c events)
ready_along st [] c allowed ready = ready
ready_along st (e ∷ events) c allowed ready = ready_along st events (after st c e) allowed.1 (ready_keeps st c e allowed.0 ready)

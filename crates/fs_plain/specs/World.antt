-- What the events of a story make of the share and of the connection to it.
use Rattle.std.specs.Prelude.{ℕ, ◌==◌, Bool, true, false, not, ◌&&◌, if◌then◌else◌, List, [], ◌∷◌, ◌++◌, length, drop, map, Option, Some, None, is_none, Result, Ok, Err}
use Rattle.std.specs.List.{list_any}
use Rattle.std.specs.Str.{bytes_eq}
use Rattle.smb_base.specs.declared.names.Key.{Key}
use Rattle.smb_base.specs.declared.names.Mid.{Mid}
use Rattle.smb_le.specs.Numbers.{number_at}
use Rattle.smb_head.specs.Stream.{First, Partial, Whole, Bad, first_of, frames_in, rest_in}
use Rattle.smb_chain.specs.declared.parts.BadNext.{BadNext}
use Rattle.smb_chain.specs.Parts.{parts_of}
use Rattle.share_state.specs.declared.connection.Grant.{Grant}
use Rattle.share_state.specs.declared.connection.LastCreate.{LastCreate}
use Rattle.share_state.specs.declared.connection.LastCreate.TheVariants as last
use Rattle.share_state.specs.declared.connection.Sent.{Sent}
use Rattle.share_state.specs.declared.connection.Owed.{Owed}
use Rattle.share_state.specs.declared.connection.Owed.TheVariants as owed
use Rattle.share_state.specs.declared.lease.Lease.{Lease}
use Rattle.share_state.specs.declared.opens.Open.{Open}
use Rattle.share_state.specs.declared.request.Who.{Who}
use Rattle.share_state.specs.declared.request.Req.{Req}
use Rattle.share_state.specs.declared.request.Req.TheVariants as req
use Rattle.share_state.specs.declared.request.Rep.{Rep}
use Rattle.share_state.specs.declared.request.RepBody.{RepBody}
use Rattle.share_state.specs.declared.request.RepBody.TheVariants as body
use Rattle.share_state.specs.declared.share.Share.{Share}
use Rattle.share_state.specs.Reply.{of_status, map_fid}
use Rattle.share_state.specs.Step.{step_of}
use Rattle.share_state.specs.Close.{is_key_of}
use Rattle.share_state.specs.Cut.{after_cut, after_join, after_drop}
use Rattle.share_state.specs.Sent.{behind_create, put_off, sent_but, sent_with}
use Rattle.smb_link.specs.declared.event.Event.{Event}
use Rattle.smb_link.specs.declared.event.Event.TheVariants as event
use Rattle.fs_plain.specs.Requests.{WireRequest, wire_request}

-- the client that is proved
abbrev pub us : Who
us = record { 0 = 0 }

-- the messages of one frame as it is sent, its four bytes of length in front
abbrev pub messages_of : First → List (Result (List ℕ) BadNext)
messages_of Partial = []
messages_of (Whole message rest) = parts_of message
messages_of (Bad fault) = []

-- the message id of a message
abbrev pub mid_of : List ℕ → Mid
mid_of message = record { 0 = number_at 8 24 message }

-- a message that waits to be taken, in a frame whose first message has this id
abbrev pub waiting : Mid → List ℕ → Sent
waiting frame message =
    record { mid = mid_of message; frame = frame; message = message; pended = false; last_create = last.Nothing }

-- of the messages of a frame, those that ask for something wait
abbrev pub requests_among : Mid → List (Result (List ℕ) BadNext) → List Sent
requests_among frame [] = []
requests_among frame (Err bad ∷ parts) = requests_among frame parts
requests_among frame (Ok message ∷ parts) =
    if is_none (wire_request message) then requests_among frame parts else waiting frame message ∷ requests_among frame parts

-- the id of the first message of a frame
abbrev pub first_mid : List (Result (List ℕ) BadNext) → Mid
first_mid [] = record { 0 = 0 }
first_mid (Err bad ∷ parts) = record { 0 = 0 }
first_mid (Ok message ∷ parts) = mid_of message

abbrev pub requests_in : List ℕ → List Sent
requests_in frame = requests_among (first_mid (messages_of (first_of frame))) (messages_of (first_of frame))

-- a frame is sent: its requests wait, where a connection stands
abbrev pub after_sent : List ℕ → Share → Share
after_sent frame s = if s.connected then record s { sent = s.sent ++ requests_in frame } else s

-- a request is the first of its frame that waits
abbrev pub is_first_of_frame : List Sent → Sent → Bool
is_first_of_frame [] x = false
is_first_of_frame (y ∷ ys) x = if y.frame.0 == x.frame.0 then y.mid.0 == x.mid.0 else is_first_of_frame ys x

-- a related request goes by the last CREATE before it in its frame: it takes that one's open, and where that was refused it is
-- refused with the same status (MS-SMB2 3.3.5.2.7.2)
abbrev pub followed : LastCreate → Req → Req
followed (last.Opened fid) r = map_fid (λ own. fid) r
followed other r = r

abbrev pub is_creating : Req → Bool
is_creating (req.Create path access share disposition options attributes lease durable) = true
is_creating r = false

-- the status with which the CREATE before it was refused
abbrev pub refusal_before : LastCreate → Option ℕ
refusal_before (last.Refused status) = Some status.0
refusal_before other = None

-- the request that a waiting message makes of the share
abbrev pub resolved : Bool → LastCreate → Req → Req
resolved related before r = if related then followed before r else r

-- what refuses it before the share looks at it
abbrev pub refused_before : Bool → LastCreate → Req → Option ℕ
refused_before related before r = if related && not (is_creating r) then refusal_before before else None

abbrev pub unless_refused_before : Option ℕ → Share → Rep × Share → Rep × Share
unless_refused_before None s done = done
unless_refused_before (Some status) s done = (of_status status, s)

-- the reply to a waiting request and the share after it
abbrev pub done_of : Option Grant → Share → Bool → LastCreate → Req → Rep × Share
done_of choice s related before r =
    unless_refused_before (refused_before related before r) s (step_of choice s us (resolved related before r))

-- what a CREATE came to
abbrev pub came_to : Rep → RepBody → LastCreate
came_to reply (body.Opened fid action size attributes lease durable) = last.Opened fid
came_to reply other = last.Refused reply.status

-- the requests that wait, once one was taken that had this reply: those behind a CREATE of their frame know what it came to
abbrev pub after_create : Req → Mid → Rep → List Sent → List Sent
after_create r frame reply sent = if is_creating r then map (behind_create frame (came_to reply reply.body)) sent else sent

-- the choices but the first
abbrev pub choices_left : List (Option Grant) → List (Option Grant)
choices_left [] = []
choices_left (choice ∷ choices) = choices

-- the choice at the next request that is taken; as much as may be where none is told
abbrev pub choice_now : List (Option Grant) → Option Grant
choice_now [] = None
choice_now (choice ∷ choices) = choice

-- a request to the share is taken: it no longer waits, it is done, and its reply is owed
abbrev pub after_done : Sent → Req → Rep × Share → Share
after_done x r done = record done.1 {
  sent = after_create r x.frame done.0 (sent_but x.mid done.1.sent);
  owed = done.1.owed ++ owed.Reply x.mid x.message done.0 ∷ [];
  grants = choices_left done.1.grants;
}

-- a request of the connection itself is taken: a reply is owed, and nothing of the share changes
abbrev pub after_aside : Sent → Share → Share
after_aside x s = record s {
  sent = sent_but x.mid s.sent;
  owed = s.owed ++ owed.Aside x.mid x.message ∷ [];
  grants = choices_left s.grants;
}

abbrev pub after_taking : Option WireRequest → Sent → Share → Share
after_taking None x s = s
after_taking (Some WireRequest.Aside) x s = after_aside x s
after_taking (Some (WireRequest.Share related r)) x s = after_done x r (done_of (choice_now s.grants) s related x.last_create r)

abbrev pub after_took_of : Option Sent → Share → Share
after_took_of None s = s
after_took_of (Some x) s = after_taking (wire_request x.message) x s

-- a request is taken
abbrev pub after_took : Mid → Share → Share
after_took mid s = after_took_of (sent_with mid s.sent) s

-- a request is put off: an interim reply is owed
abbrev pub after_pend_of : Option Sent → Mid → Share → Share
after_pend_of None mid s = s
after_pend_of (Some x) mid s =
    record s { sent = map (put_off mid) s.sent; owed = s.owed ++ owed.Interim mid x.message ∷ [] }

abbrev pub after_pend : Mid → Share → Share
after_pend mid s = after_pend_of (sent_with mid s.sent) mid s

-- the choice that a reply tells
abbrev pub grant_in : RepBody → Option Grant
grant_in (body.Opened fid action size attributes lease durable) = Some (record { lease = lease; durable = durable })
grant_in other = None

-- another client's request is done
abbrev pub act_of : ℕ → Req → Rep → Share → Rep × Share
act_of who r reply s = step_of (grant_in reply.body) s (record { 0 = who }) r

-- a lease under this key that a connected open has and of which no break is asked
abbrev pub is_breakable : List Open → Key → Lease → Bool
is_breakable opens key l =
    bytes_eq l.key.0 key.0 && is_none l.asked
    && list_any (λ o. o.who.0 == l.who.0 && o.connected && is_key_of key o.key) opens

-- the first such lease
abbrev pub breakable : List Open → Key → List Lease → Option Lease
breakable opens key [] = None
breakable opens key (l ∷ ls) = if is_breakable opens key l then Some l else breakable opens key ls

-- a break to a state is asked of the first such lease
abbrev pub asked_of_first : List Open → Key → ℕ → List Lease → List Lease
asked_of_first opens key state [] = []
asked_of_first opens key state (l ∷ ls) =
    if is_breakable opens key l then record l { asked = Some state } ∷ ls else l ∷ asked_of_first opens key state ls

-- this client is owed a notice of the break of a lease of its own, which wants an acknowledgement
abbrev pub notices : Option Lease → Key → ℕ → List Owed
notices None key state = []
notices (Some l) key state = if l.who.0 == 0 then owed.Notice key state true ∷ [] else []

abbrev pub after_break : Key → ℕ → Share → Share
after_break key state s = record s {
  leases = asked_of_first s.opens key state s.leases;
  owed = s.owed ++ notices (breakable s.opens key s.leases) key state;
}

-- the messages of frames, one after another
abbrev pub messages_in : List (List ℕ) → List (Result (List ℕ) BadNext)
messages_in [] = []
messages_in (frame ∷ frames) = parts_of frame ++ messages_in frames

-- the messages that became whole with these bytes, behind those that are held
abbrev pub messages_got : List ℕ → Share → List (Result (List ℕ) BadNext)
messages_got bytes s = messages_in (frames_in (s.held ++ bytes))

-- bytes are got: what became whole is owed no longer, and the rest is held
abbrev pub after_got : List ℕ → Share → Share
after_got bytes s =
    record s { owed = drop (length (messages_got bytes s)) s.owed; held = rest_in (s.held ++ bytes) }

-- the share and the connection after an event
abbrev pub happens : Share → Event → Share
happens s (event.Marked mark) = s
happens s (event.Sent frame) = after_sent frame s
happens s (event.Got bytes) = after_got bytes s
happens s event.Quiet = s
happens s event.Joined = after_join s
happens s event.NotJoined = s
happens s event.Cut = after_cut s
happens s (event.Took mid) = after_took mid s
happens s (event.Pend mid) = after_pend mid s
happens s (event.Act who r reply) = (act_of who r reply s).1
happens s (event.Break key state) = after_break key state s
happens s (event.Dropped key) = after_drop key s

-- the real share after these events
abbrev pub share_after : Share → List Event → Share
share_after s [] = s
share_after s (e ∷ events) = share_after (happens s e) events

-- What each event of the client makes of it. The share's own events tell it nothing.
use Rattle.std.specs.Prelude.{ℕ, ◌+◌, min, Bool, true, false, not, if◌then◌else◌, List, [], ◌∷◌, ◌++◌, length, map, filter, Option, Some, None, Result, Ok, Err}
use Rattle.smb_base.specs.declared.names.Mid.{Mid}
use Rattle.smb_le.specs.Numbers.{number_at}
use Rattle.smb_head.specs.declared.head.Head.{Head}
use Rattle.smb_head.specs.declared.head.HeadFault.{HeadFault}
use Rattle.smb_head.specs.Header.{head_of}
use Rattle.smb_head.specs.Stream.{first_of, frames_in, rest_in}
use Rattle.smb_chain.specs.declared.parts.BadNext.{BadNext}
use Rattle.smb_credit.specs.Window.{cost, no_request}
use Rattle.fs_types.specs.declared.call.Call.{Call}
use Rattle.share_state.specs.declared.connection.Sent.{Sent}
use Rattle.smb_link.specs.declared.event.Event.{Event}
use Rattle.smb_link.specs.declared.event.Event.TheVariants as event
use Rattle.smb_link.specs.declared.mark.Mark.{Mark}
use Rattle.smb_link.specs.declared.mark.Mark.TheVariants as mark
use Rattle.smb_link.specs.Calls.{program_of}
use Rattle.smb_link.specs.Story.{is_of_share}
use Rattle.fs_plain.specs.Requests.{WireRequest, wire_request}
use Rattle.fs_plain.specs.World.{mid_of, messages_of, first_mid, requests_in, messages_in}
use Rattle.fs_plain.specs.Told.{Announcement, told_after}
use Rattle.fs_plain.specs.PlainSide.{file_named}
use Rattle.fs_client.specs.Item.{Item, on_item, items_but, spoken_for, flown, parted}
use Rattle.fs_client.specs.View.{Setting, View, Exchange, Tally, Client}
use Rattle.fs_client.specs.Looks.{awaited_with, answers_aside, looked, all_looked}

-- a call as it begins
abbrev pub new_item : Setting → ℕ → ℕ → Call → View → Item
new_item s number lane call v = record {
  number = number;
  lane = lane;
  call = call;
  announced = false;
  broken = false;
  rest = program_of s.options s.seed call;
  fids = [];
  file = file_named call v.told.known.locals;
  frame = None;
  known = v.told.known;
}

-- the calls after a mark
abbrev pub items_marked : Setting → Mark → View → List Item
items_marked s (mark.Begin number lane call) v = v.items ++ new_item s number lane call v ∷ []
items_marked s (mark.For number first count) v = map (spoken_for number) v.items
items_marked s (mark.Answer number a) v = items_but number v.items
items_marked s (mark.Now time) v = v.items
items_marked s mark.End v = v.items

-- the messages of a frame as it is sent, and the id of its first one
abbrev pub parts_sent : List ℕ → List (Result (List ℕ) BadNext)
parts_sent frame = messages_of (first_of frame)

abbrev pub frame_of : List ℕ → Mid
frame_of frame = first_mid (parts_sent frame)

-- how many ids a message costs, by the charge in its header (MS-SMB2 2.2.1.2); and those of a frame
abbrev pub cost_of : List ℕ → ℕ
cost_of message = cost (number_at 2 6 message)

abbrev pub costs_among : List (Result (List ℕ) BadNext) → ℕ
costs_among [] = 0
costs_among (Err bad ∷ parts) = costs_among parts
costs_among (Ok message ∷ parts) = cost_of message + costs_among parts

-- the calls for which a frame was announced have sent it
abbrev pub items_sent : List Announcement → Mid → List Item → List Item
items_sent [] frame items = items
items_sent (a ∷ announced) frame items = items_sent announced frame (on_item a.number (flown frame a.known) items)

-- a connection is made, or is gone: nothing is in flight on it
abbrev pub on_connection : Bool → View → View
on_connection stands v = record v {
  items = map parted v.items;
  flights = [];
  early = [];
  held = [];
  connected = stands;
  next = 0;
}

-- the messages that bytes make whole
abbrev pub made_whole : List ℕ → View → List (Result (List ℕ) BadNext)
made_whole bytes v = messages_in (frames_in (v.held ++ bytes))

-- the view after an event
abbrev pub view_after : Setting → View → Event → View
view_after s v (event.Marked m) = record v { items = items_marked s m v; told = told_after (event.Marked m) [] v.told }
view_after s v (event.Sent frame) = record v {
  items = items_sent v.told.announced (frame_of frame) v.items;
  flights = v.flights ++ requests_in frame;
  next = v.next + costs_among (parts_sent frame);
  told = told_after (event.Sent frame) [] v.told;
}
view_after s v (event.Got bytes) = all_looked (made_whole bytes v) (record v {
  held = rest_in (v.held ++ bytes);
  told = told_after (event.Got bytes) (made_whole bytes v) v.told;
})
view_after s v event.Joined = record (on_connection true v) { told = told_after event.Joined [] v.told }
view_after s v event.Cut = record (on_connection false v) { told = told_after event.Cut [] v.told }
view_after s v other = v

-- the ids that messages grant: as many as their headers say, never the one of what answers no request
abbrev pub granted_by : Result Head HeadFault → ℕ → ℕ
granted_by (Err fault) n = n
granted_by (Ok head) n = min (n + head.credits) no_request

abbrev pub granted_among : List (Result (List ℕ) BadNext) → ℕ → ℕ
granted_among [] n = n
granted_among (Err bad ∷ parts) n = granted_among parts n
granted_among (Ok message ∷ parts) n = granted_among parts (granted_by (head_of message) n)

-- the exchanges of the connection itself that messages end, each looked at where those before it were
abbrev pub exchange_as : Option WireRequest → Sent → List ℕ → View → List Exchange
exchange_as (Some WireRequest.Aside) x message v =
    if answers_aside x message v.told.owners then record { request = x.message; reply = message } ∷ [] else []
exchange_as other x message v = []

abbrev pub exchange_by : Option Sent → List ℕ → View → List Exchange
exchange_by None message v = []
exchange_by (Some x) message v = exchange_as (wire_request x.message) x message v

abbrev pub exchanges_among : List (Result (List ℕ) BadNext) → View → List Exchange
exchanges_among [] v = []
exchanges_among (Err bad ∷ parts) v = exchanges_among parts v
exchanges_among (Ok message ∷ parts) v =
    exchange_by (awaited_with (mid_of message) v) message v ++ exchanges_among parts (looked message v)

-- the counts after an event
abbrev pub tally_after : View → Tally → Event → Tally
tally_after v t (event.Got bytes) = record {
  frames = t.frames + length (frames_in (v.held ++ bytes));
  granted = granted_among (made_whole bytes v) t.granted;
  silences = 0;
  exchanges = t.exchanges ++ exchanges_among (made_whole bytes v) v;
}
tally_after v t event.Quiet = record t { silences = t.silences + 1 }
tally_after v t event.Joined = record t { granted = 1; silences = 0; exchanges = [] }
tally_after v t event.Cut = record t { granted = 0; silences = 0; exchanges = [] }
tally_after v t other = t

-- the client after an event, and after events
abbrev pub after : Setting → Client → Event → Client
after s c e = record { view = view_after s c.view e; tally = tally_after c.view c.tally e }

abbrev pub all_after : Setting → Client → List Event → Client
all_after s c [] = c
all_after s c (e ∷ events) = all_after s (after s c e) events

-- of a story, what is the client's own
abbrev pub own : List Event → List Event
own story = filter (λ e. not (is_of_share e)) story

-- Looking at what came: a final reply has its call go on, once those before it in its frame are answered. A reply is looked at as soon
-- as the bytes make its frame whole.
use Rattle.std.specs.Prelude.{ℕ, zero, suc, ◌==◌, Bool, not, ◌&&◌, if◌then◌else◌, List, [], ◌∷◌, ◌++◌, length, filter, Option, Some, None, is_none, Result, Ok, Err}
use Rattle.std.specs.List.{list_any}
use Rattle.smb_base.specs.declared.names.Mid.{Mid}
use Rattle.smb_chain.specs.declared.parts.BadNext.{BadNext}
use Rattle.share_state.specs.declared.connection.Owed.{Owed}
use Rattle.share_state.specs.declared.connection.Owed.TheVariants as owed
use Rattle.share_state.specs.declared.connection.Sent.{Sent}
use Rattle.share_state.specs.declared.request.Rep.{Rep}
use Rattle.share_state.specs.Sent.{sent_but, sent_with}
use Rattle.fs_plain.specs.Requests.{WireRequest, wire_request}
use Rattle.fs_plain.specs.Replies.{reply_in, is_aside_reply}
use Rattle.fs_plain.specs.World.{mid_of, is_first_of_frame}
use Rattle.fs_plain.specs.Owners.{Owner, owner_of}
use Rattle.fs_plain.specs.Masked.{masked}
use Rattle.fs_client.specs.Item.{Item, on_item, gone_on}
use Rattle.fs_client.specs.View.{View}
use Rattle.fs_client.specs.Asked.{is_refused, fits, left_by}

-- the reply to a request was looked at already, and waits for its turn
abbrev pub is_early : Mid → List (Mid × Rep) → Bool
is_early mid early = list_any (λ entry. entry.0.0 == mid.0) early

abbrev pub early_but : Mid → List (Mid × Rep) → List (Mid × Rep)
early_but mid early = filter (λ (entry : Mid × Rep). not (entry.0.0 == mid.0)) early

-- the request in flight with an id whose reply was not looked at
abbrev pub awaited_with : Mid → View → Option Sent
awaited_with mid v = if is_early mid v.early then None else sent_with mid v.flights

-- the calls once a reply came to its turn: the request's own call goes on, unless the request was refused with the CREATE before it
abbrev pub advanced : Option Owner → Bool → Rep → List Item → List Item
advanced None refused reply items = items
advanced (Some o) refused reply items = if refused then items else on_item o.number (gone_on o.known reply) items

-- a request is answered, in its turn
abbrev pub went : Sent → Rep → View → View
went x reply v = record v {
  items = advanced (owner_of x.mid v.told.owners) (is_refused x) reply v.items;
  flights = left_by x reply v.flights;
  early = early_but x.mid v.early;
}

-- the first early reply whose request has come to its turn
abbrev pub if_first : Option Sent → List Sent → Rep → Option (Sent × Rep) → Option (Sent × Rep)
if_first None flights reply others = others
if_first (Some x) flights reply others = if is_first_of_frame flights x then Some (x, reply) else others

abbrev pub in_turn : List Sent → List (Mid × Rep) → Option (Sent × Rep)
in_turn flights [] = None
in_turn flights (entry ∷ early) = if_first (sent_with entry.0 flights) flights entry.1 (in_turn flights early)

-- so many early replies at most come to their turn, one after another
abbrev pub drained_with : Option (Sent × Rep) → (View → View) → View → View
drained_with None others v = v
drained_with (Some next) others v = others (went next.0 next.1 v)

abbrev pub drained : ℕ → View → View
drained zero v = v
drained (suc n) v = drained_with (in_turn v.flights v.early) (drained n) v

-- a final reply is looked at: where its request is the first of its frame it goes, and then those early ones whose turn has come; else
-- it is early itself
abbrev pub landed_by : Option Sent → Rep → View → View
landed_by None reply v = v
landed_by (Some x) reply v =
    if is_first_of_frame v.flights x then drained (length v.early) (went x reply v)
    else record v { early = v.early ++ (x.mid, reply) ∷ [] }

-- a request of the connection itself is answered
abbrev pub without : Mid → View → View
without mid v = record v { flights = sent_but mid v.flights }

-- a message is the reply to a request of the connection itself, which is no call's
abbrev pub answers_aside : Sent → List ℕ → List Owner → Bool
answers_aside x message owners = is_none (owner_of x.mid owners) && is_aside_reply x.mid x.message message

-- a message is looked at. One that is no final reply to an awaited request moves nothing: an interim reply, a notice, a stranger's.
abbrev pub looked_reply : Option Rep → Sent → View → View
looked_reply None x v = v
looked_reply (Some reply) x v = if fits x reply then landed_by (Some x) reply v else v

abbrev pub looked_as : Option WireRequest → Sent → List ℕ → View → View
looked_as None x message v = v
looked_as (Some WireRequest.Aside) x message v = if answers_aside x message v.told.owners then without x.mid v else v
looked_as (Some (WireRequest.Share related request)) x message v = looked_reply (reply_in x.mid x.message message) x v

abbrev pub looked_for : Option Sent → List ℕ → View → View
looked_for None message v = v
looked_for (Some x) message v = looked_as (wire_request x.message) x message v

abbrev pub looked : List ℕ → View → View
looked message v = looked_for (awaited_with (mid_of message) v) message v

-- the messages of frames that came, one after another
abbrev pub looked_part : Result (List ℕ) BadNext → View → View
looked_part (Err bad) v = v
looked_part (Ok message) v = looked message v

abbrev pub all_looked : List (Result (List ℕ) BadNext) → View → View
all_looked [] v = v
all_looked (part ∷ parts) v = all_looked parts (looked_part part v)

-- the same, told by what a share owes. A reply is told as its request has it.
abbrev pub answered_aside : Option Sent → View → View
answered_aside None v = v
answered_aside (Some x) v = without x.mid v

abbrev pub landed_owed : Owed → View → View
landed_owed (owed.Interim mid request) v = v
landed_owed (owed.Reply mid request reply) v = landed_by (awaited_with mid v) (masked request reply) v
landed_owed (owed.Aside mid request) v = answered_aside (awaited_with mid v) v
landed_owed (owed.Notice key state wanted) v = v

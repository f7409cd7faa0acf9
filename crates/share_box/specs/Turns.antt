-- The turns of a box: which one is next, and what each does.
use Rattle.std.specs.Prelude.{ℕ, ◌==◌, Bool, true, false, not, ◌&&◌, if◌then◌else◌, List, [], ◌∷◌, ◌++◌, take, map, slice_get, Option, Some, None}
use Rattle.smb_base.specs.declared.names.Mid.{Mid}
use Rattle.share_state.specs.declared.connection.Sent.{Sent}
use Rattle.share_state.specs.declared.request.Req.{Req}
use Rattle.share_state.specs.declared.share.Share.{Share}
use Rattle.share_state.specs.Built.{is_built}
use Rattle.share_state.specs.Step.{step_of}
use Rattle.smb_link.specs.declared.event.Event.{Event}
use Rattle.smb_link.specs.declared.event.Event.TheVariants as event
use Rattle.share_state.specs.Sent.{put_off, sent_but, sent_with}
use Rattle.share_box.specs.declared.bodies.Said.{Said}
use Rattle.share_box.specs.declared.schedule.Turn.{Turn}
use Rattle.share_box.specs.declared.schedule.Turn.TheVariants as turn
use Rattle.share_box.specs.declared.serving.Plan.{Plan}
use Rattle.share_box.specs.declared.turns.NextTurn.{NextTurn}
use Rattle.share_box.specs.declared.turns.NextTurn.TheVariants as ahead
use Rattle.share_box.specs.declared.state.State.{State}
use Rattle.share_box.specs.Schedule.{turns_behind}
use Rattle.share_box.specs.Order.{waiting_ids}
use Rattle.share_box.specs.Answers.{reply_of, interim_of}
use Rattle.share_box.specs.Serving.{is_free, is_servable, plan_of, done_by}

-- another client may make a request: the share takes it, and no break stands against it
abbrev pub may_act : Share → ℕ → Req → Bool
may_act s who r = not (who == 0) && is_built r && is_free s (record { 0 = who }) r

-- a turn is possible while a connection stands
abbrev pub is_possible : Share → Turn → Bool
is_possible s (turn.Serve n) = is_servable s n
is_possible s (turn.Act who r) = may_act s who r
is_possible s turn.Cut = true
is_possible s turn.Quiet = true
is_possible s turn.DropAll = true
is_possible s turn.RefuseConnect = false

-- the next turn of the list, which is there and not possible
abbrev pub must_pass : Share → List Turn → Bool
must_pass s [] = false
must_pass s (t ∷ ts) = not (is_possible s t)

-- the turns from the first one on that is possible
abbrev pub from_possible : Share → List Turn → List Turn
from_possible s [] = []
from_possible s (t ∷ ts) = if is_possible s t then t ∷ ts else from_possible s ts

-- at the end of the list a box serves the oldest request, if it can, and else does nothing
abbrev pub last_turn : Share → Turn
last_turn s = if is_servable s 0 then turn.Serve 0 else turn.Quiet

abbrev pub first_turn : Share → List Turn → Turn
first_turn s [] = last_turn s
first_turn s (t ∷ ts) = t

-- the next turn, and those that are left after it
unfoldable pub turn_of : State → Turn
turn_of b = first_turn b.share (from_possible b.share b.turns)

unfoldable pub turns_after : State → List Turn
turns_after b = turns_behind (from_possible b.share b.turns)

abbrev pub is_cut : Turn → Bool
is_cut (turn.Serve n) = false
is_cut (turn.Act who r) = false
is_cut turn.Cut = true
is_cut turn.Quiet = false
is_cut turn.DropAll = false
is_cut turn.RefuseConnect = false

-- the reply to a request that was taken waits
abbrev pub answered : Sent → Said × Share → State → State
answered one done b = record b { share = done.1; waiting = b.waiting ++ reply_of b.credits one.pended one.message done.0 }

-- a request that was taken is done
abbrev pub answered_as : Option Plan → Sent → State → State
answered_as None one b = b
answered_as (Some p) one b = answered one (done_by p one b.share) b

-- a request is taken, and done
abbrev pub served_as : Option Plan → Sent → State → State
served_as p one b = answered_as p one (record b { story = b.story ++ event.Took one.mid ∷ [] })

-- the request with an id is served, if there is one, and each with its id waits no longer
abbrev pub served_found : Option Sent → State → State
served_found None b = b
served_found (Some one) b = served_as (plan_of one) one (record b { share = record b.share { sent = sent_but one.mid b.share.sent } })

abbrev pub served_at : Mid → State → State
served_at mid b = served_found (sent_with mid b.share.sent) b

-- the interim reply to a request that was found, unless it had one already
abbrev pub interim_to : Option Sent → Option (List ℕ)
interim_to None = None
interim_to (Some one) = if one.pended then None else Some (interim_of one.message)

-- the request with an id is put off: its interim reply waits
abbrev pub delayed_by : Option (List ℕ) → Mid → State → State
delayed_by None mid b = b
delayed_by (Some frame) mid b = record b {
  share = record b.share { sent = map (put_off mid) b.share.sent };
  story = b.story ++ event.Pend mid ∷ [];
  waiting = b.waiting ++ frame;
}

abbrev pub delayed : Mid → State → State
delayed mid b = delayed_by (interim_to (sent_with mid b.share.sent)) mid b

-- so are those with these ids, one after the other
abbrev pub all_delayed : List Mid → State → State
all_delayed [] b = b
all_delayed (mid ∷ mids) b = all_delayed mids (delayed mid b)

abbrev pub served_with : Option Mid → State → State
served_with None b = b
served_with (Some mid) b = served_at mid b

-- the request with this number, of those that may be served, is served, and those before it are put off first
unfoldable pub served : ℕ → State → State
served n b = served_with (slice_get (waiting_ids b.share.sent) n) (all_delayed (take n (waiting_ids b.share.sent)) b)

-- another client makes a request
abbrev pub act_events : Share → ℕ → Req → List Event
act_events s who r = event.Act who r (step_of None s (record { 0 = who }) r).0 ∷ []

abbrev pub share_after_act : Share → ℕ → Req → Share
share_after_act s who r = (step_of None s (record { 0 = who }) r).1

-- a box after a turn that is no cut
unfoldable pub turned : Turn → State → State
turned (turn.Serve n) b = served n b
turned (turn.Act who r) b =
    record b { share = share_after_act b.share who r; story = b.story ++ act_events b.share who r }
turned turn.Cut b = b
turned turn.Quiet b = b
turned turn.DropAll b = b
turned turn.RefuseConnect b = b

-- what a connect leaves of the turns that it takes: the share, the story and the turns to come, and whether it is refused
pub record Reached : Type 0 where
  pub share : Share
  pub story : List Event
  pub turns : List Turn
  pub refused : Bool

abbrev pub reached : Share → List Event → List Turn → Bool → Reached
reached s story turns refused = record { share = s; story = story; turns = turns; refused = refused }

-- what comes next at a connect
abbrev pub ahead_in : List Turn → NextTurn
ahead_in [] = ahead.Rest
ahead_in (turn.Act who r ∷ ts) = ahead.Turn
ahead_in (turn.DropAll ∷ ts) = ahead.Turn
ahead_in (turn.RefuseConnect ∷ ts) = ahead.Refusal
ahead_in (turn.Serve n ∷ ts) = ahead.Rest
ahead_in (turn.Cut ∷ ts) = ahead.Rest
ahead_in (turn.Quiet ∷ ts) = ahead.Rest

-- a connect takes turns as long as the next one is an act, a drop or a refusal, which ends it; an act that is not possible is passed
-- over
abbrev pub at_connect : List Turn → Share → List Event → Reached
at_connect [] s story = reached s story [] false
at_connect (turn.Act who r ∷ ts) s story =
    if may_act s who r then at_connect ts (share_after_act s who r) (story ++ act_events s who r) else at_connect ts s story
at_connect (turn.DropAll ∷ ts) s story = at_connect ts s story
at_connect (turn.RefuseConnect ∷ ts) s story = reached s story ts true
at_connect (turn.Serve n ∷ ts) s story = reached s story (turn.Serve n ∷ ts) false
at_connect (turn.Cut ∷ ts) s story = reached s story (turn.Cut ∷ ts) false
at_connect (turn.Quiet ∷ ts) s story = reached s story (turn.Quiet ∷ ts) false

-- The plain side of a story, event by event, and the first place where the story diverges from it.
use Rattle.std.specs.Prelude.{ℕ, ◌+◌, ◌-◌, ◌==◌, Bool, true, false, not, ◌&&◌, ◌||◌, nat_lt, nat_le, if◌then◌else◌, List, [], ◌∷◌, ◌++◌, length, map, Option, Some, None, Result, filter}
use Rattle.std.specs.List.{list_any, list_all}
use Rattle.smb_base.specs.declared.names.Fid.{Fid}
use Rattle.smb_base.specs.declared.names.Mid.{Mid}
use Rattle.smb_chain.specs.declared.parts.BadNext.{BadNext}
use Rattle.fs_types.specs.declared.call.Call.{Call}
use Rattle.share_state.specs.declared.opens.Open.{Open}
use Rattle.share_state.specs.declared.request.Req.{Req}
use Rattle.share_state.specs.declared.request.Rep.{Rep}
use Rattle.share_state.specs.declared.share.Share.{Share}
use Rattle.share_state.specs.State.{Making}
use Rattle.share_state.specs.Reply.{fid_of, map_fid}
use Rattle.share_state.specs.PlainShare.{plain_step}
use Rattle.share_state.specs.Close.{closed}
use Rattle.share_state.specs.declared.request.Req.TheVariants as req
use Rattle.smb_link.specs.declared.event.Event.{Event}
use Rattle.smb_link.specs.declared.event.Event.TheVariants as event
use Rattle.smb_link.specs.declared.mark.Mark.{Mark}
use Rattle.smb_link.specs.declared.mark.Mark.TheVariants as mark
use Rattle.smb_link.specs.Calls.{is_there, program_of}
use Rattle.fs_plain.specs.World.{messages_got, happens}
use Rattle.fs_plain.specs.Honest.{start}
use Rattle.fs_plain.specs.Same.{same_reply, answer_of_reply}
use Rattle.fs_plain.specs.Run.{Run}
use Rattle.fs_plain.specs.Differences.{Difference, odd_unless, first_of_two}
use Rattle.fs_plain.specs.Owners.{mids_in}
use Rattle.fs_plain.specs.Paired.{Pair, pair_given, plain_of_real}
use Rattle.fs_plain.specs.Told.{Announcement, ids_of, was_begun, told_after}
use Rattle.fs_plain.specs.PlainSide.{PlainCall, PlainSide, is_deed, plain_side, file_named}
use Rattle.fs_plain.specs.PlainTaken.{side_after_took, is_right_took}
use Rattle.fs_plain.specs.PlainAnswered.{judged_answer, side_after_answer}

-- a call begins: it is there, its number is above all before it, and its lane is free
abbrev pub may_begin : PlainSide → ℕ → ℕ → Call → Bool
may_begin p number lane call =
    is_there call && list_all (λ line. nat_lt line.0 number) p.told.begun && not (list_any (λ (c : PlainCall). c.lane == lane) p.running)

abbrev pub side_after_begin : Run → PlainSide → ℕ → ℕ → Call → PlainSide
side_after_begin run p number lane call = record p {
  running = p.running ++ record {
    number = number;
    lane = lane;
    call = call;
    announced = false;
    rest = program_of run.options run.seed call;
    opened = [];
    file = file_named call p.told.known.locals;
  } ∷ [];
  to_begin = p.to_begin - 1;
}

-- a call, with the word that a frame was announced for it where it has this number
abbrev pub spoken_for : ℕ → PlainCall → PlainCall
spoken_for number c = if c.number == number then record c { announced = true } else c

-- the calls and the plain share after a mark
abbrev pub side_after_mark : Run → Share → PlainSide → Mark → PlainSide
side_after_mark run s p (mark.Begin number lane call) = side_after_begin run p number lane call
side_after_mark run s p (mark.For number first count) = record p { running = map (spoken_for number) p.running }
side_after_mark run s p (mark.Answer number a) = side_after_answer run s p number a
side_after_mark run s p (mark.Now time) = p
side_after_mark run s p mark.End = p

abbrev pub judged_mark : Run → Share → PlainSide → Mark → Option Difference
judged_mark run s p (mark.Begin number lane call) = odd_unless (may_begin p number lane call)
judged_mark run s p (mark.For number first count) = odd_unless (was_begun number p.told.begun)
judged_mark run s p (mark.Answer number a) = judged_answer run s p number a
judged_mark run s p (mark.Now time) = None
judged_mark run s p mark.End = None

-- a frame holds all the requests that the marks before it speak of
abbrev pub holds_announced : List Mid → List Announcement → Bool
holds_announced mids announced = list_all (λ (a : Announcement). nat_le a.count (length (ids_of mids a))) announced

-- the open with a number, if it stands, and the share once it was closed
abbrev pub with_number : ℕ → List Open → Option Open
with_number n [] = None
with_number n (o ∷ os) = if o.number == n then Some o else with_number n os

abbrev pub closed_if : Option Open → Share → Share
closed_if None s = s
closed_if (Some o) s = closed o s

-- the opens that stand in the first list and no more in the second
abbrev pub ended_between : List Open → List Open → List Open
ended_between before after = filter (λ o. not (list_any (λ q. q.number == o.number) after)) before

-- an event that ends opens of the real share ends those that stand for them, each as by a Close
abbrev pub all_ended_with : List Pair → List Open → Share → Share
all_ended_with pairs [] plain = plain
all_ended_with pairs (o ∷ os) plain =
    all_ended_with pairs os (closed_if (with_number (plain_of_real pairs o.number) plain.opens) plain)

abbrev pub side_after_ends : Share → Event → PlainSide → PlainSide
side_after_ends s e p = record p { plain = all_ended_with p.pairs (ended_between s.opens (happens s e).opens) p.plain }

-- what speaks of leases and lost connections alone is not done on the plain share
abbrev pub is_passed_over : Req → Bool
is_passed_over (req.Ack key state) = true
is_passed_over (req.Reclaim fid key) = true
is_passed_over r = false

-- another client's file id, carried over to the plain share
abbrev pub fid_carried : List Pair → Fid → Fid
fid_carried pairs fid = if fid.persistent == fid.volatile then fid_of (plain_of_real pairs fid.persistent) else fid_of 0

abbrev pub act_on_side : PlainSide → ℕ → Req → Rep × Share
act_on_side p who request = plain_step p.plain (record { 0 = who }) (map_fid (fid_carried p.pairs) request)

abbrev pub side_after_act : PlainSide → ℕ → Req → Rep → PlainSide
side_after_act p who request reply =
    if is_passed_over request then p
    else record p { plain = (act_on_side p who request).1; pairs = pair_given [] (act_on_side p who request).0 reply ++ p.pairs }

-- it has the same reply there
abbrev pub judged_act : Run → PlainSide → ℕ → Req → Rep → Option Difference
judged_act run p who request reply =
    if is_passed_over request || same_reply (act_on_side p who request).0 reply then None
    else Some (record {
      expected = answer_of_reply run.options (act_on_side p who request).0;
      found = answer_of_reply run.options reply;
    })

-- the calls and the plain share after an event at the real share with its connection
abbrev pub side_done : Run → Share → PlainSide → Event → PlainSide
side_done run s p (event.Marked m) = side_after_mark run s p m
side_done run s p event.Cut = side_after_ends s event.Cut p
side_done run s p (event.Took mid) = side_after_took s p mid
side_done run s p (event.Act who request reply) = side_after_act p who request reply
side_done run s p (event.Dropped key) = side_after_ends s (event.Dropped key) p
side_done run s p other = p

-- the messages that an event made whole
abbrev pub made_whole : Share → Event → List (Result (List ℕ) BadNext)
made_whole s (event.Got bytes) = messages_got bytes s
made_whole s other = []

-- what is still to come of the client, without this event
abbrev pub deeds_left : Event → ℕ → ℕ
deeds_left e n = if is_deed e then n - 1 else n

-- the whole plain side after an event. What the client tells by it is told last, so that a mark is done by what was known before it,
-- and an answer is judged by what is still to come behind it.
abbrev pub side_after : Run → Share → PlainSide → Event → PlainSide
side_after run s p e =
    let done : PlainSide = side_done run s p e in
    record done { told = told_after e (made_whole s e) done.told; to_do = deeds_left e done.to_do }

-- how an event differs from what the plain client would do, if it does
abbrev pub judged_event : Run → Share → PlainSide → Event → Option Difference
judged_event run s p (event.Marked m) = judged_mark run s p m
judged_event run s p (event.Sent frame) = odd_unless (holds_announced (mids_in frame) p.told.announced)
judged_event run s p (event.Took mid) = odd_unless (is_right_took s p mid)
judged_event run s p (event.Act who request reply) = judged_act run p who request reply
judged_event run s p e = None

-- the first divergence of these events, of which the first has this number
abbrev pub divergence_from : Run → ℕ → Share → PlainSide → List Event → Option (ℕ × Difference)
divergence_from run n s p [] = None
divergence_from run n s p (e ∷ events) =
    first_of_two n (judged_event run s p e) (divergence_from run (n + 1) (happens s e) (side_after run s p e) events)

-- the first divergence of a story, with the number of its event from 1 on
abbrev pub divergence : Run → Making → List Event → Option (ℕ × Difference)
divergence run made story = divergence_from run 1 (start made.room made.fold story) (plain_side made story) story

-- the plain side after events
abbrev pub side_at : Run → Share → PlainSide → List Event → PlainSide
side_at run s p [] = p
side_at run s p (e ∷ events) = side_at run (happens s e) (side_after run s p e) events

-- What an event of the core does: the outputs that it adds are what the client may do, one after the other, once the input came.
use Rattle.std.specs.Prelude.{◌≡◌, ℕ, ◌<◌, ◌≤◌, ◌||◌, max, Bool, true, false, List, [], ◌∷◌, ◌++◌, Option, Some, None, Ok, Err}
use Rattle.std.specs.List.{flat_map, list_any}
use Rattle.smb_head.specs.declared.command.TheConstants.{QUERY_INFO, LOGOFF}
use Rattle.smb_head.specs.declared.request.Request.{Request}
use Rattle.smb_head.specs.Header.{head_of}
use Rattle.smb_head.specs.Stream.{frames_in}
use Rattle.share_state.specs.declared.connection.Sent.{Sent}
use Rattle.share_state.specs.Sent.{sent_with}
use Rattle.smb_link.specs.declared.event.Event.{Event}
use Rattle.smb_link.specs.declared.event.Event.TheVariants as event
use Rattle.smb_link.specs.declared.mark.Mark.{Mark}
use Rattle.smb_link.specs.declared.mark.Mark.TheVariants as mark
use Rattle.smb_link.specs.Program.{settled}
use Rattle.smb_mount.specs.declared.facts.Facts.{Facts}
use Rattle.smb_mount.specs.declared.fault.MountFault.{MountFault}
use Rattle.smb_mount.specs.Verdicts.{NegotiateEnds, SetUpEnds, SessionEnds, TreeEnds}
use Rattle.smb_mux.specs.declared.fault.TakeFault.TheVariants as take_fault
use Rattle.smb_mux.specs.declared.fault.Malformed.TheVariants as malformed
use Rattle.smb_mux.specs.declared.taken.Reply.{Reply}
use Rattle.smb_mux.specs.declared.taken.Taken.{Taken}
use Rattle.smb_mux.specs.Judged.{judged}
use Rattle.fs_plain.specs.Replies.{command_of, reply_in}
use Rattle.fs_client.specs.View.{Setting, Exchange, View, Client}
use Rattle.fs_client.specs.Item.{Item, item_with}
use Rattle.fs_client.specs.After.{after, all_after}
use Rattle.fs_client.specs.Mount.{Stage, Unmounted, Agreed, Challenging, InSession, Mounted, HasCome, LeadTo, at_first, asked_at}
use Rattle.fs_client.specs.May.{Allowed, is_stat, was_answered, IsAsking, IsLeaving}
use Rattle.fs_client.specs.Ready.{awaited}
use Rattle.fs_client.specs.Sane.{Sane}
use Rattle.fs_client.specs.Spelled.{free_ids}
use Rattle.fs_core.specs.declared.fault.CoreFault.{CoreFault}
use Rattle.fs_core.specs.declared.fault.CoreFault.TheVariants as fault
use Rattle.fs_core.specs.declared.fault.Protocol.TheVariants as protocol
use Rattle.fs_core.specs.declared.input.Input.{Input}
use Rattle.fs_core.specs.declared.input.Input.TheVariants as input
use Rattle.fs_core.specs.declared.output.Output.{Output}
use Rattle.fs_core.specs.declared.output.Output.TheVariants as output
use Rattle.fs_core.specs.declared.phase.Phase.{Phase}
use Rattle.fs_core.specs.declared.phase.Phase.TheVariants as phase
use Rattle.fs_core.specs.Fits.{Fits}
use Rattle.fs_core.specs.Kept.{Kept, CoreValue}
use Rattle.fs_core.specs.Parts.{is_lane_free}

-- the events that carrying out an output makes
abbrev pub events_by : Output → List Event
events_by (output.Send frame) = event.Sent frame ∷ []
events_by (output.Marked m) = event.Marked m ∷ []
events_by (output.Answer number a) = event.Marked (mark.Answer number a) ∷ []
events_by output.Reconnect = []
events_by output.Left = []

abbrev pub events_of : List Output → List Event
events_of outs = flat_map events_by outs

-- the order of outputs: a connection; a beginning, the clock, the end; answers; frames, each behind the mark that speaks of it; the end
-- of all. An answer is an output of its own, and no mark.
abbrev pub rank_of : Mark → ℕ
rank_of (mark.For number first count) = 3
rank_of (mark.Answer number a) = 5
rank_of other = 1

abbrev pub rank : Output → ℕ
rank output.Reconnect = 0
rank (output.Marked m) = rank_of m
rank (output.Answer number a) = 2
rank (output.Send frame) = 3
rank output.Left = 4

-- outputs stand in this order, none before the first and none behind the last of two ranks
abbrev pub AreInOrder : ℕ → ℕ → List Output → Type 0
AreInOrder low high [] = Unit {0}
AreInOrder low high (o ∷ os) = (low ≤ rank o) × (rank o ≤ high) × AreInOrder (rank o) high os

-- what a mark tells of the core itself: a beginning, the clock, the end, and nothing where it says what a frame is for, or an answer
abbrev pub telling_of : Mark → List Mark
telling_of (mark.For number first count) = []
telling_of (mark.Answer number a) = []
telling_of other = other ∷ []

abbrev pub telling_by : Output → List Mark
telling_by (output.Marked m) = telling_of m
telling_by other = []

-- what outputs tell of the core itself, in their order
abbrev pub tellings : List Output → List Mark
tellings outs = flat_map telling_by outs

-- what an input has the core tell of itself: its beginning; the latest time that the clock read; the end
abbrev pub told_by : Input → Kept → List Mark
told_by (input.Begin number lane call) k = mark.Begin number lane call ∷ []
told_by (input.Now time) k = mark.Now (max k.now time) ∷ []
told_by input.End k = mark.End ∷ []
told_by other k = []

-- the share is left
abbrev pub is_leave : Output → Bool
is_leave output.Left = true
is_leave other = false

abbrev pub has_left : List Output → Bool
has_left outs = list_any is_leave outs

-- a connection is to be made; one stands; the share was mounted; it was left
abbrev pub is_apart : Phase → Bool
is_apart (phase.Apart start) = true
is_apart other = false

abbrev pub is_connected : Phase → Bool
is_connected (phase.Apart start) = false
is_connected phase.Lost = false
is_connected other = true

abbrev pub is_mounted : Phase → Bool
is_mounted (phase.On facts) = true
is_mounted (phase.LeavingTree facts) = true
is_mounted (phase.LeavingSession facts) = true
is_mounted phase.Left = true
is_mounted other = false

abbrev pub is_left : Phase → Bool
is_left phase.Left = true
is_left other = false

-- what an input makes of the number of the last line, of the time, of the end, and of whether a connection stands
abbrev pub last_after : Input → Option ℕ → Option ℕ
last_after (input.Begin number lane call) last = Some number
last_after other last = last

abbrev pub now_after : Input → ℕ → ℕ
now_after (input.Now time) now = max now time
now_after other now = now

abbrev pub ended_after : Input → Bool → Bool
ended_after input.End ended = true
ended_after other ended = ended

abbrev pub connected_after : Input → Bool → Bool
connected_after input.Joined connected = true
connected_after input.Cut connected = false
connected_after other connected = connected

pub record Stays (e : Input) (k k' : Kept) : Type 0 where
  pub last : k'.last ≡ last_after e k.last
  pub now : k'.now ≡ now_after e k.now
  pub ended : k'.ended ≡ ended_after e k.ended
  pub connected : is_connected k'.phase ≡ connected_after e (is_connected k.phase)

-- what comes without an input leaves all that as it was
pub record Holds (k k' : Kept) : Type 0 where
  pub last : k'.last ≡ k.last
  pub now : k'.now ≡ k.now
  pub ended : k'.ended ≡ k.ended
  pub connected : is_connected k'.phase ≡ is_connected k.phase

-- a part of an event: where the core has what a client has, these outputs are what that client may do, one after the other, and then the
-- core has what it has
abbrev pub Does : Setting → Kept → List Output → Kept → Type 0
Does st k more k' = (c : Client) → Sane c.view → Fits st k c → Allowed st c (events_of more) × Fits st k' (all_after st c (events_of more))

pub record Puts (low high : ℕ) (old new : CoreValue) : Type 0 where
  pub more : List Output
  pub setting : new.setting ≡ old.setting
  pub outs : new.outs ≡ old.outs ++ more
  pub order : AreInOrder low high more
  pub left : is_left new.kept.phase ≡ (is_left old.kept.phase || has_left more)
  pub holds : Holds old.kept new.kept
  pub does : Does old.setting old.kept more new.kept

-- what an input has the core tell of itself: a beginning, the clock, the end
pub record Tells (e : Input) (old new : CoreValue) : Type 0 where
  pub more : List Output
  pub setting : new.setting ≡ old.setting
  pub outs : new.outs ≡ old.outs ++ more
  pub order : AreInOrder 1 1 more
  pub tells : tellings more ≡ told_by e old.kept
  pub left : is_left new.kept.phase ≡ (is_left old.kept.phase || has_left more)
  pub stays : Stays e old.kept new.kept
  pub does : Does old.setting old.kept more new.kept

-- what an input tells a client: the bytes that made this frame whole, a connection that was made or lost; the others tell nothing
abbrev pub Brought : Setting → Input → Client → Client → Type 0
Brought st (input.Frame frame) c c' =
    (bytes : List ℕ) × (c.view.connected ≡ true) × (frames_in (c.view.held ++ bytes) ≡ frame ∷ []) × (c' ≡ after st c (event.Got bytes))
Brought st input.Joined c c' = (c.view.connected ≡ false) × (c' ≡ after st c event.Joined)
Brought st input.Cut c c' = (c.view.connected ≡ true) × (c' ≡ after st c event.Cut)
Brought st other c c' = c' ≡ c

-- an event adds outputs that the client may do once the input came, and tells of the core itself what the input has it tell
pub record Moves (e : Input) (old new : CoreValue) : Type 0 where
  pub more : List Output
  pub setting : new.setting ≡ old.setting
  pub outs : new.outs ≡ old.outs ++ more
  pub order : AreInOrder 1 4 more
  pub tells : tellings more ≡ told_by e old.kept
  pub left : is_left old.kept.phase ≡ false → has_left more ≡ is_left new.kept.phase
  pub does : (c c' : Client) → Sane c.view → Fits old.setting old.kept c → Brought old.setting e c c'
      → Allowed old.setting c' (events_of more) × Fits old.setting new.kept (all_after old.setting c' (events_of more))

-- an input came: the core has what the client has then, and added no output yet
pub record Comes (e : Input) (old new : CoreValue) : Type 0 where
  pub setting : new.setting ≡ old.setting
  pub outs : new.outs ≡ old.outs
  pub left : is_left new.kept.phase ≡ is_left old.kept.phase
  pub stays : Stays e old.kept new.kept
  pub fits : (c c' : Client) → Sane c.view → Fits old.setting old.kept c → Brought old.setting e c c' → Fits old.setting new.kept c'

-- with the connection the outputs go that were not taken; how calls go on then is to come
abbrev pub Goes : Input → CoreValue → CoreValue → Type 0
Goes input.Cut old new = (new.setting ≡ old.setting) × (new.outs ≡ []) × (new.kept.phase ≡ phase.Lost)
Goes e old new = Moves e old new

-- a number is above the last one
abbrev pub IsAfter : Option ℕ → ℕ → Type 0
IsAfter None number = Unit {0}
IsAfter (Some last) number = last < number

-- an input that may come
abbrev pub MayTake : Input → Kept → Type 0
MayTake (input.Begin number lane call) k =
    (is_mounted k.phase ≡ true) × (is_lane_free lane k.slots ≡ true) × IsAfter k.last number × (k.ended ≡ false) × (is_stat call ≡ true)
MayTake (input.Frame frame) k = is_connected k.phase ≡ true
MayTake input.Cut k = is_connected k.phase ≡ true
MayTake input.Joined k = is_apart k.phase ≡ true
MayTake (input.Now time) k = Unit {0}
MayTake input.End k = k.ended ≡ false

-- Nobody waits for nothing: where nothing is in flight and no connection is to be made, the share is mounted, no call runs, and once the
-- end was said the share is left.
abbrev pub IsAtPeace : Phase → Bool → Type 0
IsAtPeace (phase.Apart start) ended = Unit {0}
IsAtPeace (phase.On facts) ended = ended ≡ false
IsAtPeace phase.Left ended = Unit {0}
IsAtPeace phase.Lost ended = Unit {0}
IsAtPeace other ended = ⊥

abbrev pub Lives : Kept → Type 0
Lives k = k.flights ≡ [] → IsAtPeace k.phase k.ended × (is_apart k.phase ≡ false → k.slots ≡ [])

-- what waits for an id: a call's request, the mount's next one, one that leaves the share
pub data Waits (st : Setting) (c : Client) : Type 0 where
  CallWaits : (item : Item) → item_with item.number c.view.items ≡ Some item → IsAsking (settled c.view.told.known item.rest) → Waits st c
  MountWaits : (stage : Stage) → HasCome st c stage → (request : Request) → asked_at stage ≡ Some request → Waits st c
  LeaveWaits : (facts : Facts) → IsLeaving st c facts → was_answered LOGOFF c.tally.exchanges ≡ false → Waits st c

-- a request waits, none is in flight, and no id may be used
pub record IsStarved (st : Setting) (c : Client) : Type 0 where
  pub quiet : c.view.flights ≡ []
  pub none : free_ids c ≡ 0
  pub waits : Waits st c

-- a reply refuses the mount
abbrev pub FailsAt : Stage → List ℕ → MountFault → Type 0
FailsAt (Unmounted k) reply f = NegotiateEnds k (head_of reply) reply (Err f)
FailsAt (Agreed k) reply f = SetUpEnds k (head_of reply) reply (Err f)
FailsAt (Challenging k) reply f = SessionEnds k (head_of reply) reply (Err f)
FailsAt (InSession k) reply f = TreeEnds k (head_of reply) reply (Err f)
FailsAt (Mounted facts) reply f = ⊥

-- of the exchanges of the connection one refuses the mount
pub record IsRefused (st : Setting) (c : Client) (f : MountFault) : Type 0 where
  pub before : List Exchange
  pub exchange : Exchange
  pub later : List Exchange
  pub told : c.tally.exchanges ≡ before ++ exchange ∷ later
  pub stage : Stage
  pub come : LeadTo (at_first st) before stage
  pub fails : FailsAt stage exchange.reply f

-- a reply that a frame brings, sound as a message, has information that cannot be read
pub record IsUnreadable (v : View) (frame : List ℕ) : Type 0 where
  pub taken : Taken
  pub sound : judged (awaited v) frame ≡ Ok taken
  pub before : List Reply
  pub reply : Reply
  pub later : List Reply
  pub told : taken.replies ≡ before ++ reply ∷ later
  pub request : Sent
  pub sent : sent_with reply.mid v.flights ≡ Some request
  pub query : command_of request.message ≡ QUERY_INFO
  pub unread : reply_in request.mid request.message reply.part ≡ None

-- why the core stops, for the client that it fits: before the input, and once it came
abbrev pub CausedBy : Setting → Input → Client → Client → CoreFault → Type 0
CausedBy st e c c' fault.NoMemory = Unit {0}
CausedBy st e c c' (fault.Protocol protocol.NoCredit) =
    (more : List Output) × Allowed st c' (events_of more) × IsStarved st (all_after st c' (events_of more))
CausedBy st (input.Frame frame) c c' (fault.Protocol (protocol.Head f)) = judged (awaited c.view) frame ≡ Err (take_fault.Malformed (malformed.Head f))
CausedBy st (input.Frame frame) c c' (fault.Protocol (protocol.Body f)) = judged (awaited c.view) frame ≡ Err (take_fault.Malformed (malformed.Body f))
CausedBy st (input.Frame frame) c c' (fault.Protocol protocol.Chain) = judged (awaited c.view) frame ≡ Err (take_fault.Malformed malformed.Chain)
CausedBy st (input.Frame frame) c c' (fault.Protocol (protocol.Stranger mid)) = judged (awaited c.view) frame ≡ Err (take_fault.Stranger mid)
CausedBy st (input.Frame frame) c c' (fault.Protocol (protocol.Info f)) = IsUnreadable c.view frame
CausedBy st (input.Frame frame) c c' (fault.Refused f) = IsRefused st c' f
CausedBy st e c c' other = ⊥

abbrev pub IsFaultOf : Input → CoreValue → CoreFault → Type 0
IsFaultOf e old f = (c c' : Client) → Sane c.view → Fits old.setting old.kept c → Brought old.setting e c c' → CausedBy old.setting e c c' f

-- why the core stops in a part of an event that takes no input: for want of memory, or as a client that it fits is starved in the end
abbrev pub Stops : CoreValue → CoreFault → Type 0
Stops old fault.NoMemory = Unit {0}
Stops old (fault.Protocol protocol.NoCredit) =
    (c : Client) → Sane c.view → Fits old.setting old.kept c
    → (more : List Output) × Allowed old.setting c (events_of more) × IsStarved old.setting (all_after old.setting c (events_of more))
Stops old other = ⊥

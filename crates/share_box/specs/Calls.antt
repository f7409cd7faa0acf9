-- What each call of a box does.
use Rattle.std.specs.Prelude.{◌≡◌, ◌≤◌, ℕ, ◌==◌, Bool, true, false, not, ◌&&◌, ◌||◌, min, if◌then◌else◌, List, [], ◌∷◌, ◌++◌, length, take, drop, is_ok, Some, Result, Ok, Err}
use Rattle.std.specs.List.{list_all}
use Rattle.smb_base.specs.declared.names.NoMemory.{NoMemory}
use Rattle.smb_link.specs.declared.event.Event.{Event}
use Rattle.smb_link.specs.declared.event.Event.TheVariants as event
use Rattle.smb_link.specs.declared.faults.LinkFail.{LinkFail}
use Rattle.smb_link.specs.declared.faults.LinkFail.TheVariants as fail
use Rattle.smb_link.specs.declared.faults.Got.{Got}
use Rattle.smb_link.specs.declared.faults.Got.TheVariants as got
use Rattle.smb_link.specs.declared.mark.Mark.{Mark}
use Rattle.smb_link.specs.declared.places.Place.{Place}
use Rattle.smb_link.specs.Count.{counted}
use Rattle.smb_link.specs.Story.{is_of_share, is_failed, connect_cuts, StandsAfterConnect, Gains, GainsByConnect, join_events}
use Rattle.share_state.specs.Cut.{after_cut, after_join}
use Rattle.share_state.specs.State.{fresh_share}
use Rattle.share_box.specs.declared.schedule.Turn.{Turn}
use Rattle.share_box.specs.declared.schedule.Schedule.{Schedule}
use Rattle.share_box.specs.declared.schedule.Schedule.TheVariants as schedule
use Rattle.share_box.specs.declared.state.State.{State}
use Rattle.fs_plain.specs.World.{requests_in}
use Rattle.share_box.specs.Turns.{Reached, at_connect, turn_of, turns_after, turned, is_cut}

-- the turns of a schedule
abbrev pub turns_in : Schedule → List Turn
turns_in (schedule.List turns) = turns

-- a box whose share has the root alone
abbrev pub fresh_box : ℕ → Bool → ℕ → List Turn → State
fresh_box room fold credits turns = record {
  room = room;
  fold = fold;
  share = fresh_share room fold;
  waiting = [];
  turns = turns;
  credits = credits;
  story = [];
  dead = false;
  connect_faults = 0;
  cuts = 0;
  quiets = 0;
}

-- a box as a link: what it holds, how many connections a connect ended, and where the connects went
pub record BoxSeen : Type 0 where
  pub state : State
  pub own_cuts : ℕ
  pub places : List Place

-- the connection ends, after these events
abbrev pub ended : List Event → State → State
ended events b = record b {
  share = after_cut b.share;
  story = b.story ++ (events ++ event.Cut ∷ []);
  waiting = [];
  cuts = counted b.cuts true;
}

-- a frame is taken: its requests wait
abbrev pub accepted : List ℕ → State → State
accepted frame b = record b {
  share = record b.share { sent = b.share.sent ++ requests_in frame };
  story = b.story ++ event.Sent frame ∷ [];
}

-- a connect ends the connection that stands
abbrev pub left : State → State
left b = if b.share.connected then ended [] b else b

-- and takes the turns that come before it
abbrev pub reached_from : State → Reached
reached_from b = at_connect b.turns b.share b.story

abbrev pub with_reached : Reached → State → State
with_reached r b = record b { share = r.share; story = r.story; turns = r.turns }

abbrev pub gone_on : State → State
gone_on b = with_reached (reached_from b) b

abbrev pub is_refused : State → Bool
is_refused b = (reached_from b).refused

-- a new connection, which is empty
abbrev pub joined : State → State
joined b = record b { share = after_join b.share; story = b.story ++ event.Joined ∷ []; waiting = [] }

abbrev pub refused : State → State
refused b = record b { story = b.story ++ event.NotJoined ∷ []; connect_faults = counted b.connect_faults true }

-- what a call did before it ran out of memory is not said
abbrev pub Nothing : Type 0
Nothing = Unit {0}

-- a connect where no connection stands
abbrev pub Tries : State → State → Result (Unit {0}) LinkFail → Type 0
Tries old new (Ok x) = (is_refused old ≡ false) × (new ≡ joined (gone_on old))
Tries old new (Err fail.Failed) = (is_refused old ≡ true) × (new ≡ refused (gone_on old))
Tries old new (Err fail.NoMemory) = Nothing

-- a connect
abbrev pub Connects : State → State → Result (Unit {0}) LinkFail → Type 0
Connects old new result = Tries (left old) new result

-- a send
abbrev pub Sends : List ℕ → State → State → Result (Unit {0}) LinkFail → Type 0
Sends frame old new (Ok x) = (old.share.connected ≡ true) × (new ≡ accepted frame old)
Sends frame old new (Err fail.Failed) = (old.share.connected ≡ false) × (new ≡ ended (event.Sent frame ∷ []) old)
Sends frame old new (Err fail.NoMemory) = Nothing

-- the next turn is taken off the list
abbrev pub passed : State → State
passed b = record b { turns = turns_after b }

-- a receive takes a turn where no byte waits
abbrev pub ready : State → State
ready b = if length b.waiting == 0 then turned (turn_of b) (passed b) else b

-- it finds the connection closed where none stands, or no byte waits and the turn is a cut
abbrev pub is_over : State → Bool
is_over b = not b.share.connected || (length b.waiting == 0 && is_cut (turn_of b))

-- with no connection no turn is taken
abbrev pub over : State → State
over b = if b.share.connected then passed b else b

-- a receive that gives so many bytes
abbrev pub given : ℕ → State → State
given n b = record b { story = b.story ++ event.Got (take n b.waiting) ∷ []; waiting = drop n b.waiting }

-- a receive that waits in vain
abbrev pub waited : State → State
waited b = record b { story = b.story ++ event.Quiet ∷ []; quiets = counted b.quiets true }

-- bytes are given, or it is waited in vain, from what waits: as many as fit into a buffer of this room
abbrev pub Gives : ℕ → List ℕ → State → State → Got → Type 0
Gives room buffer old new (got.Bytes n) =
    (n ≡ min room (length old.waiting)) × (1 ≤ n) × (take n buffer ≡ take n old.waiting) × (new ≡ given n old)
Gives room buffer old new got.Quiet = (old.waiting ≡ []) × (new ≡ waited old)
Gives room buffer old new got.Closed = ⊥
Gives room buffer old new got.NoMemory = Nothing

-- a receive that takes this turn: a cut ends the connection, and after another one bytes are given or it is waited in vain
abbrev pub Takes : Turn → ℕ → List ℕ → State → State → Got → Type 0
Takes t room buffer old new (got.Bytes n) = (is_cut t ≡ false) × Gives room buffer (turned t old) new (got.Bytes n)
Takes t room buffer old new got.Quiet = (is_cut t ≡ false) × Gives room buffer (turned t old) new got.Quiet
Takes t room buffer old new got.Closed = (is_cut t ≡ true) × (new ≡ ended [] old)
Takes t room buffer old new got.NoMemory = Nothing

-- a receive into a buffer of this room
abbrev pub Receives : ℕ → List ℕ → State → State → Got → Type 0
Receives room buffer old new (got.Bytes n) = (is_over old ≡ false) × Gives room buffer (ready old) new (got.Bytes n)
Receives room buffer old new got.Quiet = (is_over old ≡ false) × Gives room buffer (ready old) new got.Quiet
Receives room buffer old new got.Closed = (is_over old ≡ true) × (new ≡ ended [] (over old))
Receives room buffer old new got.NoMemory = Nothing

-- a mark
abbrev pub marked : Mark → State → State
marked mark b = record b { story = b.story ++ event.Marked mark ∷ [] }

-- whether a call ran out of memory
abbrev pub is_want : Result (Unit {0}) LinkFail → Bool
is_want (Ok x) = false
is_want (Err fail.Failed) = false
is_want (Err fail.NoMemory) = true

abbrev pub is_want_of_bytes : Got → Bool
is_want_of_bytes (got.Bytes n) = false
is_want_of_bytes got.Quiet = false
is_want_of_bytes got.Closed = false
is_want_of_bytes got.NoMemory = true

-- a box went on: events of the share and then these of the client were told, and the connection ended, or was waited for in vain, or
-- neither
pub record Goes (own : List Event) (closed quiet : Bool) (old new : State) : Type 0 where
  pub share : List Event
  pub theirs : list_all is_of_share share ≡ true
  pub story : new.story ≡ old.story ++ (share ++ own)
  pub connected : new.share.connected ≡ (if closed then false else old.share.connected)
  pub dead : new.dead ≡ old.dead
  pub connect_faults : new.connect_faults ≡ old.connect_faults
  pub cuts : new.cuts ≡ counted old.cuts closed
  pub quiets : new.quiets ≡ counted old.quiets quiet

-- a story gained events of the share alone
pub record Tells (old new : List Event) : Type 0 where
  pub share : List Event
  pub theirs : list_all is_of_share share ≡ true
  pub story : new ≡ old ++ share

-- it went on with no event of the client
abbrev pub GoesOn : State → State → Type 0
GoesOn = Goes [] false false

-- what a call of the box answers as a link, whether it did what was asked or not
abbrev pub as_link : Result Bool NoMemory → Result (Unit {0}) LinkFail
as_link (Ok true) = Ok tt
as_link (Ok false) = Err fail.Failed
as_link (Err e) = Err fail.NoMemory

abbrev pub as_got : Result Got NoMemory → Got
as_got (Ok g) = g
as_got (Err e) = got.NoMemory

-- a connect where no connection stands went on: it joined or was refused
pub record GoesToJoin (result : Result (Unit {0}) LinkFail) (old new : State) : Type 0 where
  pub story : Gains (join_events result) (Some old.story) (Some new.story)
  pub connected : new.share.connected ≡ is_ok result
  pub dead : new.dead ≡ old.dead
  pub connect_faults : new.connect_faults ≡ counted old.connect_faults (is_failed result)
  pub cuts : new.cuts ≡ old.cuts
  pub quiets : new.quiets ≡ old.quiets

-- a connect went on: it ended the connection that stood, unless memory ran out before, and joined or was refused
pub record GoesToConnect (result : Result (Unit {0}) LinkFail) (old new : State) : Type 0 where
  pub story : GainsByConnect old.share.connected new.share.connected result (Some old.story) (Some new.story)
  pub stands : StandsAfterConnect old.share.connected new.share.connected result
  pub dead : new.dead ≡ old.dead
  pub connect_faults : new.connect_faults ≡ counted old.connect_faults (is_failed result)
  pub cuts : new.cuts ≡ counted old.cuts (connect_cuts old.share.connected new.share.connected result)
  pub quiets : new.quiets ≡ old.quiets

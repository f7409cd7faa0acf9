-- What each call of a link adds to its story, and what it makes of the connection.
use Rattle.std.specs.Prelude.{◌≡◌, ℕ, ◌++◌, List, [], ◌∷◌, take, Option, option_map, Result, Ok, Err, Bool, true, false, not, ◌&&◌, if◌then◌else◌}
use Rattle.std.specs.List.{list_all}
use Rattle.smb_base.specs.declared.names.NoMemory.{NoMemory}
use Rattle.smb_link.specs.declared.mark.Mark.{Mark}
use Rattle.smb_link.specs.declared.event.Event.{Event}
use Rattle.smb_link.specs.declared.event.Event.TheVariants as event
use Rattle.smb_link.specs.declared.faults.LinkFail.{LinkFail}
use Rattle.smb_link.specs.declared.faults.LinkFail.TheVariants as fail
use Rattle.smb_link.specs.declared.faults.Got as answer
use Rattle.smb_link.specs.declared.faults.Got.TheVariants as got

-- a story with more events at its end; what is not told stays untold
abbrev pub story_with : Option (List Event) → List Event → Option (List Event)
story_with story events = option_map (λ so_far. so_far ++ events) story

-- what the share did, of itself or for another client; all else is the client's own
abbrev pub is_of_share : Event → Bool
is_of_share (event.Marked mark) = false
is_of_share (event.Sent frame) = false
is_of_share (event.Got bytes) = false
is_of_share event.Quiet = false
is_of_share event.Joined = false
is_of_share event.NotJoined = false
is_of_share event.Cut = false
is_of_share (event.Took mid) = true
is_of_share (event.Pend mid) = true
is_of_share (event.Act who request reply) = true
is_of_share (event.Break key state) = true
is_of_share (event.Dropped key) = true

-- a story gained these events of the client, and any of the share before them
abbrev pub Gains : List Event → Option (List Event) → Option (List Event) → Type 0
Gains own old new = (share : List Event) × (list_all is_of_share share ≡ true) × (new ≡ story_with old (share ++ own))

-- the call failed for the connection, not for want of memory
abbrev pub is_failed : Result (Unit {0}) LinkFail → Bool
is_failed (Ok x) = false
is_failed (Err fail.Failed) = true
is_failed (Err fail.NoMemory) = false

-- a connect ends the connection that stood; for want of memory it may have left that one
abbrev pub connect_cuts : Bool → Bool → Result (Unit {0}) LinkFail → Bool
connect_cuts stood stands (Ok x) = stood
connect_cuts stood stands (Err fail.Failed) = stood
connect_cuts stood stands (Err fail.NoMemory) = stood && not stands

-- after a connect: a connection, none, or for want of memory none but one that stood before
abbrev pub StandsAfterConnect : Bool → Bool → Result (Unit {0}) LinkFail → Type 0
StandsAfterConnect stood stands (Ok x) = stands ≡ true
StandsAfterConnect stood stands (Err fail.Failed) = stands ≡ false
StandsAfterConnect stood stands (Err fail.NoMemory) = stands ≡ true → stood ≡ true

-- a connect adds the end of the connection that it ends, and then whether it joined: here the latter
abbrev pub join_events : Result (Unit {0}) LinkFail → List Event
join_events (Ok x) = event.Joined ∷ []
join_events (Err fail.Failed) = event.NotJoined ∷ []
join_events (Err fail.NoMemory) = []

-- the end of the connection that a connect ends
abbrev pub ended_events : Bool → Bool → Result (Unit {0}) LinkFail → List Event
ended_events stood stands result = if connect_cuts stood stands result then event.Cut ∷ [] else []

abbrev pub connect_events : Bool → Bool → Result (Unit {0}) LinkFail → List Event
connect_events stood stands result = ended_events stood stands result ++ join_events result

-- the share may go on before the one and before the other
abbrev pub GainsByConnect : Bool → Bool → Result (Unit {0}) LinkFail → Option (List Event) → Option (List Event) → Type 0
GainsByConnect stood stands result old new =
    (between : Option (List Event)) × Gains (ended_events stood stands result) old between × Gains (join_events result) between new

-- a mark adds itself
abbrev pub mark_events : Mark → Result (Unit {0}) NoMemory → List Event
mark_events mark (Ok x) = event.Marked mark ∷ []
mark_events mark (Err e) = []

-- a send adds its frame, and where it failed the end of the connection
abbrev pub send_events : List ℕ → Result (Unit {0}) LinkFail → List Event
send_events frame (Ok x) = event.Sent frame ∷ []
send_events frame (Err fail.Failed) = event.Sent frame ∷ event.Cut ∷ []
send_events frame (Err fail.NoMemory) = []

-- a receive adds the bytes that it put into the front of the buffer, or that nothing came, or the end of the connection
abbrev pub receive_events : List ℕ → answer.Got → List Event
receive_events buffer (got.Bytes n) = event.Got (take n buffer) ∷ []
receive_events buffer got.Quiet = event.Quiet ∷ []
receive_events buffer got.Closed = event.Cut ∷ []
receive_events buffer got.NoMemory = []

abbrev pub is_closed : answer.Got → Bool
is_closed (got.Bytes n) = false
is_closed got.Quiet = false
is_closed got.Closed = true
is_closed got.NoMemory = false

abbrev pub is_quiet : answer.Got → Bool
is_quiet (got.Bytes n) = false
is_quiet got.Quiet = true
is_quiet got.Closed = false
is_quiet got.NoMemory = false

-- what holds of the number of bytes that came
abbrev pub IfBytes : answer.Got → (ℕ → Type 0) → Type 0
IfBytes (got.Bytes n) P = P n
IfBytes got.Quiet P = Unit {0}
IfBytes got.Closed P = Unit {0}
IfBytes got.NoMemory P = Unit {0}

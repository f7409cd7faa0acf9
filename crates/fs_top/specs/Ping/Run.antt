-- What the top call does where the words are no run's: what the client does and gets at the link, how that ends, and what is printed of it.
-- Events of the share are none of the client's, and say nothing here.
use Rattle.std.specs.Prelude.{◌≡◌, ◌⊎◌, ℕ, Bool, List, [], ◌∷◌, ◌++◌}
use Rattle.smb_link.specs.declared.event.Event.{Event}
use Rattle.smb_link.specs.declared.event.Event.TheVariants.{Sent, Joined, NotJoined}
use Rattle.fs_top.specs.declared.ping.ending.Ending.{Ending}
use Rattle.fs_top.specs.declared.ping.ending.Ending.TheVariants.{Greeted, Words, Memory, Dialect, Frame, Connects, Cuts}
use Rattle.smb_link.specs.Came.{Seen, Came}
use Rattle.fs_top.specs.Connects.{opening}
use Rattle.fs_top.specs.Ping.Endings.{status_of, text_of}
use Rattle.fs_top.specs.Printing.{Held, PrintedAs}
use Rattle.fs_top.specs.Ping.Request.{ping_frame}
use Rattle.fs_top.specs.Ping.Tale.{WaitEnds}
use Rattle.fs_top.specs.Words.{IsPing}

-- there was a connection, the request was sent on it, and so the wait for the first frame ended
abbrev pub AskedEnds : Bool → List ℕ → List Event → Ending → Type 0
AskedEnds stood seed events ending =
    (waited : List Event) × (events ≡ opening stood ++ Joined ∷ Sent (ping_frame seed) ∷ waited) × WaitEnds waited ending

-- the client's events at the link in a ping with each ending. Want of memory has no cause
abbrev pub PingEnds : Bool → List ℕ → List Event → Ending → Type 0
PingEnds stood seed events Connects = events ≡ opening stood ++ NotJoined ∷ []
PingEnds stood seed events Cuts = AskedEnds stood seed events Cuts
PingEnds stood seed events (Greeted greeting) = AskedEnds stood seed events (Greeted greeting)
PingEnds stood seed events (Dialect dialect) = AskedEnds stood seed events (Dialect dialect)
PingEnds stood seed events (Frame kind) = AskedEnds stood seed events (Frame kind)
PingEnds stood seed events Words = ⊥
PingEnds stood seed events Memory = ⊥

-- the words are those of a ping
abbrev pub ArePing : List (List ℕ) → Type 0
ArePing words = (host : List ℕ) × (port : ℕ) × IsPing words host port

-- the cause of each ending of the program
abbrev pub Causes : List (List ℕ) → Bool → List ℕ → List Event → Ending → Type 0
Causes words stood seed events Words = (ArePing words → ⊥) × (events ≡ [])
Causes words stood seed events Connects = ArePing words × PingEnds stood seed events Connects
Causes words stood seed events Cuts = ArePing words × PingEnds stood seed events Cuts
Causes words stood seed events (Greeted greeting) = ArePing words × PingEnds stood seed events (Greeted greeting)
Causes words stood seed events (Dialect dialect) = ArePing words × PingEnds stood seed events (Dialect dialect)
Causes words stood seed events (Frame kind) = ArePing words × PingEnds stood seed events (Frame kind)
Causes words stood seed events Memory = ⊥

-- the line of the ending was printed, and the status is the ending's, or 8 where the sink refused a part of the line
abbrev pub Printed : Ending → Held → Held → ℕ → Type 0
Printed ending old new status = PrintedAs (text_of ending) (status_of ending) old new status

-- a run of the program: these events of the client came at the link, it ended so, for that cause unless memory ran out, no other ending has
-- a cause in them, and the ending was printed
pub record Ran (words : List (List ℕ)) (stood : Bool) (seed : List ℕ) (link link' : Seen) (sink sink' : Held) (status : ℕ) : Type 0 where
  pub events : List Event
  pub came : Came events link link'
  pub ending : Ending
  pub cause : (ending ≡ Memory) ⊎ Causes words stood seed events ending
  pub only : (other : Ending) → Causes words stood seed events other → (ending ≡ Memory) ⊎ (other ≡ ending)
  pub printed : Printed ending sink sink' status

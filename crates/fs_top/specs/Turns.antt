-- A run as turns: an input for the client, what the client wants done then and is carried out, and what is heard after that.
use Rattle.std.specs.Prelude.{◌≡◌, ℕ, ◌+◌, ◌==◌, Bool, true, false, not, if◌then◌else◌, List, [], ◌∷◌, ◌++◌, length, filter}
use Rattle.smb_head.specs.Stream.{frames_in, rest_in}
use Rattle.smb_link.specs.declared.event.Event.{Event}
use Rattle.smb_link.specs.declared.event.Event.TheVariants as event
use Rattle.smb_link.specs.declared.mark.Mark.{Mark}
use Rattle.smb_link.specs.declared.mark.Mark.TheVariants as mark
use Rattle.fs_script.specs.Answers.{line_of}
use Rattle.fs_core.specs.declared.input.Input.{Input}
use Rattle.fs_core.specs.declared.input.Input.TheVariants as input
use Rattle.fs_core.specs.declared.output.Output.{Output}
use Rattle.fs_core.specs.declared.output.Output.TheVariants as output
use Rattle.fs_core.specs.Kept.{CoreValue}
use Rattle.fs_core.specs.Parts.{has_flight}
use Rattle.fs_core.specs.Event.{events_of, has_left, MayTake, is_connected, connected_after, Goes, Stays, Lives}

-- the core before the input, once it took it, the outputs that were carried out, those that were not, and what was heard then
pub record Turn : Type 0 where
  pub input : Input
  pub before : CoreValue
  pub mid : CoreValue
  pub outs : List Output
  pub left : List Output
  pub heard : List Event

-- what the engine has between two turns: the core, the calls that were begun and not answered, the bytes of a frame that is not whole, how
-- many frames came, how many silences stand in a row while a request is unanswered, the frame that came and was not given to the core,
-- whether the connection stands, and whether the share was left
pub record State : Type 0 where
  pub core : CoreValue
  pub running : List ℕ
  pub held : List ℕ
  pub received : ℕ
  pub silences : ℕ
  pub pending : List (List ℕ)
  pub connected : Bool
  pub over : Bool

-- the core once outputs were taken
abbrev pub core_after : Turn → CoreValue
core_after t = record t.mid { outs = t.left }

-- the calls that run once an output was carried out
abbrev pub calls_marked : Mark → List ℕ → List ℕ
calls_marked (mark.Begin number lane call) running = running ++ number ∷ []
calls_marked other running = running

abbrev pub calls_but : ℕ → List ℕ → List ℕ
calls_but number running = filter (λ (n : ℕ). not (n == number)) running

abbrev pub running_by : Output → List ℕ → List ℕ
running_by (output.Marked m) running = calls_marked m running
running_by (output.Answer number a) running = calls_but number running
running_by other running = running

abbrev pub running_after : List Output → List ℕ → List ℕ
running_after [] running = running
running_after (o ∷ os) running = running_after os (running_by o running)

-- what is heard: bytes, after which no frame was whole yet; a silence, which counts while a request is unanswered; the end of the connection
abbrev pub heard_one : Bool → Event → State → State
heard_one unanswered (event.Got bytes) s = record s {
  held = rest_in (s.held ++ bytes);
  received = s.received + length (frames_in (s.held ++ bytes));
  silences = 0;
  pending = frames_in (s.held ++ bytes);
}
heard_one unanswered event.Quiet s = record s { silences = if unanswered then s.silences + 1 else 0 }
heard_one unanswered event.Cut s = record s { connected = false }
heard_one unanswered other s = s

abbrev pub heard_by : Bool → List Event → State → State
heard_by unanswered [] s = s
heard_by unanswered (e ∷ events) s = heard_by unanswered events (heard_one unanswered e s)

-- after a turn
abbrev pub carried : Turn → State → State
carried t s = record s { core = core_after t; running = running_after t.outs s.running; pending = []; over = has_left t.outs }

abbrev pub after_turn : Turn → State → State
after_turn t s = heard_by (has_flight t.mid.kept.flights) t.heard (carried t s)

abbrev pub after_turns : List Turn → State → State
after_turns [] s = s
after_turns (t ∷ ts) s = after_turns ts (after_turn t s)

-- a frame that came is given to the client at once
abbrev pub pending_of : Input → List (List ℕ)
pending_of (input.Frame frame) = frame ∷ []
pending_of other = []

abbrev pub is_now : Input → Bool
is_now (input.Now time) = true
is_now other = false

-- one thing at most is heard
abbrev pub IsOne : List Event → Type 0
IsOne [] = Unit {0}
IsOne (event.Got bytes ∷ []) = Unit {0}
IsOne (event.Quiet ∷ []) = Unit {0}
IsOne (event.Cut ∷ []) = Unit {0}
IsOne other = ⊥

-- the last output is a frame
abbrev pub ends_in_send : List Output → Bool
ends_in_send [] = false
ends_in_send (output.Send frame ∷ []) = true
ends_in_send (o ∷ os) = ends_in_send os

-- Something is heard once the time was told and all was carried out; and a frame that could not be sent ends the connection.
pub data Hears (t : Turn) : Type 0 where
  Silently : t.heard ≡ [] → Hears t
  Listened : is_now t.input ≡ true → t.left ≡ [] → has_left t.outs ≡ false → IsOne t.heard → Hears t
  Lost : ends_in_send t.outs ≡ true → t.heard ≡ event.Cut ∷ [] → Hears t

-- a turn is one event of the core, whose outputs are carried out in order
pub record IsTurn (s : State) (t : Turn) : Type 0 where
  pub before : t.before ≡ s.core
  pub nothing_left : t.before.outs ≡ []
  pub stands : s.connected ≡ true
  pub goes_on : s.over ≡ false
  pub may : MayTake t.input t.before.kept
  pub connects : connected_after t.input (is_connected t.before.kept.phase) ≡ true
  pub given : s.pending ≡ pending_of t.input
  pub goes : Goes t.input t.before t.mid
  pub stays : Stays t.input t.before.kept t.mid.kept
  pub lives : Lives t.mid.kept
  pub popped : t.mid.outs ≡ t.outs ++ t.left
  pub hears : Hears t

abbrev pub AreTurns : State → List Turn → Type 0
AreTurns s [] = Unit {0}
AreTurns s (t ∷ ts) = IsTurn s t × AreTurns (after_turn t s) ts

-- the events that came at the link
abbrev pub events_at : Turn → List Event
events_at t = events_of t.outs ++ t.heard

abbrev pub events_in : List Turn → List Event
events_in [] = []
events_in (t ∷ ts) = events_at t ++ events_in ts

-- the lines of answers that are carried out
abbrev pub line_by : Output → List ℕ
line_by (output.Answer number a) = line_of number a
line_by other = []

abbrev pub lines_by : List Output → List ℕ
lines_by [] = []
lines_by (o ∷ os) = line_by o ++ lines_by os

abbrev pub lines_at : List Turn → List ℕ
lines_at [] = []
lines_at (t ∷ ts) = lines_by t.outs ++ lines_at ts

-- What each step of the engine does.
use Rattle.std.specs.Prelude.{◌≡◌, ◌<◌, ℕ, ◌+◌, Bool, true, false, List, [], ◌∷◌, ◌++◌, Option, Some, None, Result, Ok, Err, OnOk, IsSome, IfErr, is_some}
use Rattle.smb_head.specs.Stream.{Partial, Whole, first_of}
use Rattle.smb_link.specs.Came.{Seen, Came}
use Rattle.smb_link.specs.declared.event.Event.{Event}
use Rattle.smb_link.specs.declared.mark.Mark.{Mark}
use Rattle.smb_link.specs.declared.event.Event.TheVariants as event
use Rattle.fs_ahead.specs.declared.asked.Asked.{Asked}
use Rattle.fs_ahead.specs.declared.asked.Asked.TheVariants as asked
use Rattle.fs_ahead.specs.declared.asked.Over.{Over}
use Rattle.fs_ahead.specs.Script.{Coming, Place}
use Rattle.fs_ahead.specs.Steps.{IsAhead}
use Rattle.fs_ahead.specs.Progress.{Reads, Progress}
use Rattle.fs_core.specs.declared.input.Input.{Input}
use Rattle.fs_core.specs.declared.input.Input.TheVariants as input
use Rattle.fs_core.specs.declared.output.Output.{Output}
use Rattle.fs_core.specs.declared.output.Output.TheVariants as output
use Rattle.fs_core.specs.Kept.{Kept, CoreValue}
use Rattle.fs_core.specs.Parts.{has_flight, is_lane_free}
use Rattle.fs_core.specs.Event.{MayTake, events_by, events_of, has_left, is_connected, last_after, ended_after, connected_after}
use Rattle.fs_top.specs.declared.engine.Engine.{Engine}
use Rattle.fs_top.specs.declared.hear.TheConstants.{MAX_FRAMES}
use Rattle.fs_top.specs.declared.line.Next.{Next}
use Rattle.fs_top.specs.declared.line.Next.TheVariants as next
use Rattle.fs_top.specs.declared.run_end.End.{End}
use Rattle.fs_top.specs.declared.run_end.End.TheVariants as end
use Rattle.fs_top.specs.declared.run_end.Wrong.TheVariants as wrong
use Rattle.fs_top.specs.Printing.{Held, TookAll}
use Rattle.fs_top.specs.Turns.{Turn, State, IsOne, IsTurn, AreTurns, running_by, running_after, heard_by, carried, after_turns, ends_in_send, events_in, line_by, lines_by, lines_at}
use Rattle.fs_top.specs.Causes.{end_by}
use Rattle.fs_top.specs.Ends.{EndsAt, PrintedSo, IsNoFrame, AreFew}
use Rattle.fs_top.specs.Given.{is_through, IsStopped}

-- what an engine has on a connection that stands, with the frame that came and was not given
abbrev pub state_of : Engine → List (List ℕ) → State
state_of e pending = record {
  core = e.core;
  running = e.running;
  held = e.frames;
  received = e.received;
  silences = e.silences;
  pending = pending;
  connected = true;
  over = false;
}

-- the number of the last line that began, 0 where none did
abbrev pub last_of : Option ℕ → ℕ
last_of None = 0
last_of (Some number) = number

-- the engine may give the core an input: no output is left, and the frame that is not whole lacks some bytes
pub record IsReadyFor (i : Input) (e : Engine) : Type 0 where
  pub may : MayTake i e.core.kept
  pub outs : e.core.outs ≡ []
  pub partial : first_of e.frames ≡ Partial
  pub few : e.received < MAX_FRAMES
  pub patient : e.silences < e.patience
  pub ended : is_some e.over ≡ ended_after i e.core.kept.ended
  pub stopped : IsStopped e.over e.ahead
  pub ahead : IsAhead (last_of (last_after i e.core.kept.last)) e.ahead
  pub connected : connected_after i (is_connected e.core.kept.phase) ≡ true

-- between two turns
abbrev pub IsReady : Engine → Type 0
IsReady e = IsReadyFor (input.Now 0) e

-- what a mark makes come that was to be told
abbrev pub events_told : Mark → Result (Unit {0}) End → List Event
events_told m (Ok done) = event.Marked m ∷ []
events_told m (Err why) = []

-- what carrying out one output makes come
abbrev pub events_carried : Output → Result (Unit {0}) End → List Event
events_carried o (Ok done) = events_by o
events_carried o (Err end.Sink) = events_by o
events_carried o (Err end.Cuts) = events_by o ++ event.Cut ∷ []
events_carried o (Err other) = []

-- and what it prints
abbrev pub line_carried : Output → Result (Unit {0}) End → List ℕ
line_carried o (Ok done) = line_by o
line_carried o (Err end.Sink) = line_by o
line_carried o (Err other) = []

-- why it ends the run
abbrev pub IsCarryEnd : Output → End → Type 0
IsCarryEnd o end.Memory = Unit {0}
IsCarryEnd (output.Send frame) end.Cuts = Unit {0}
IsCarryEnd (output.Answer number a) end.Sink = Unit {0}
IsCarryEnd o other = ⊥

-- the calls that run then
abbrev pub RunsOn : Output → Result (Unit {0}) End → List ℕ → List ℕ → Type 0
RunsOn o (Ok done) running running' = running' ≡ running_by o running
RunsOn o (Err end.Cuts) running running' = running' ≡ running_by o running
RunsOn o (Err other) running running' = Unit {0}

-- outputs were carried out, in order, all of them; or up to the one at which the run ends
abbrev pub CarriedTo : Result (Unit {0}) End → List Output → List Output → List Event → List ℕ → List ℕ → Type 0
CarriedTo (Ok done) did left heard running running' = (left ≡ []) × (heard ≡ []) × (has_left did ≡ false) × (running' ≡ running_after did running)
CarriedTo (Err end.Memory) did left heard running running' = heard ≡ []
CarriedTo (Err end.Sink) did left heard running running' = heard ≡ []
CarriedTo (Err end.Cuts) did left heard running running' = (heard ≡ event.Cut ∷ []) × (ends_in_send did ≡ true) × (running' ≡ running_after did running)
CarriedTo (Err end.Done) did left heard running running' = (heard ≡ []) × (has_left did ≡ true)
CarriedTo (Err (end.Line number)) did left heard running running' = (heard ≡ []) × (has_left did ≡ true)
CarriedTo (Err end.Source) did left heard running running' = (heard ≡ []) × (has_left did ≡ true)
CarriedTo (Err other) did left heard running running' = ⊥

pub record Carried (result : Result (Unit {0}) End) (outs : List Output) (running running' : List ℕ) (old new : Seen) (out out' : Held) : Type 0 where
  pub did : List Output
  pub left : List Output
  pub heard : List Event
  pub popped : outs ≡ did ++ left
  pub came : Came (events_of did ++ heard) old new
  pub printed : PrintedSo result (lines_by did) out out'
  pub to : CarriedTo result did left heard running running'

-- the calls that are unanswered where a run ends by what the server sent, or with the connection
abbrev pub Remain : End → List ℕ → List ℕ → Type 0
Remain (end.Frame number what) running reached = running ≡ reached
Remain end.Cuts running reached = running ≡ reached
Remain other running reached = Unit {0}

-- turns were taken, and this is what the engine has then; or they lead to the cause of the end
abbrev pub Reaches : ℕ → Result (Unit {0}) End → State → State → Type 0
Reaches patience (Ok done) s reached = s ≡ reached
Reaches patience (Err e) s reached = EndsAt patience e reached × Remain e s.running reached.running × AreFew e reached.received

pub record Ran (patience : ℕ) (s : State) (result : Result (Unit {0}) End) (s' : State) (old new : Seen) (out out' : Held) : Type 0 where
  pub turns : List Turn
  pub are : AreTurns s turns
  pub came : Came (events_in turns) old new
  pub printed : PrintedSo result (lines_at turns) out out'
  pub reaches : Reaches patience result s' (after_turns turns s)

-- one turn at most, at this input
abbrev pub AreBy : Input → List Turn → Type 0
AreBy i [] = Unit {0}
AreBy i (t ∷ []) = t.input ≡ i
AreBy i (t ∷ u ∷ turns) = ⊥

-- an input was given; that is a turn, or the core stopped at it
pub record RanBy (i : Input) (patience : ℕ) (s : State) (result : Result (Unit {0}) End) (s' : State) (old new : Seen) (out out' : Held) : Type 0 where
  pub ran : Ran patience s result s' old new out out'
  pub by : AreBy i ran.turns

-- an input was given, and all that the core wanted done was carried out
pub record Gave (i : Input) (s s' : State) (old new : Seen) (out out' : Held) : Type 0 where
  pub turn : Turn
  pub input : turn.input ≡ i
  pub is : IsTurn s turn
  pub all : turn.left ≡ []
  pub silent : turn.heard ≡ []
  pub came : Came (events_of turn.outs) old new
  pub printed : TookAll (lines_by turn.outs) out out'
  pub then : s' ≡ carried turn s

-- something was heard
abbrev pub HeardTo : ℕ → Result (Option (List ℕ)) End → Engine → State → Type 0
HeardTo patience (Ok None) e reached = state_of e [] ≡ reached
HeardTo patience (Ok (Some frame)) e reached = state_of e (frame ∷ []) ≡ reached
HeardTo patience (Err end.Sink) e reached = ⊥
HeardTo patience (Err why) e reached = EndsAt patience why reached × AreFew why reached.received

pub record Heard (result : Result (Option (List ℕ)) End) (e e' : Engine) (old new : Seen) : Type 0 where
  pub heard : List Event
  pub one : IsOne heard
  pub came : Came heard old new
  pub to : HeardTo e.patience result e' (heard_by (has_flight e.core.kept.flights) heard (state_of e []))

-- what the script gives leaves all else as it is
pub record IsSame (e e' : Engine) : Type 0 where
  pub state : state_of e' [] ≡ state_of e []
  pub patience : e'.patience ≡ e.patience

-- an input that a script gives: a call that begins, or the end
abbrev pub IsOfScript : Input → Type 0
IsOfScript (input.Begin number lane call) = Unit {0}
IsOfScript input.End = Unit {0}
IsOfScript other = ⊥

-- the script gives an input that the core may take, or nothing that changes the core
abbrev pub Gives : Engine → Next → Type 0
Gives e (next.Give i) = IsReadyFor i e × IsOfScript i
Gives e next.Passed = IsReady e
Gives e next.Nothing = IsReady e

-- the line that is held may begin: a call where its lane is free, a pause where no call runs
abbrev pub MayBegin : Kept → List ℕ → Option Asked → Type 0
MayBegin k running (Some (asked.Call x)) = is_lane_free x.lane k.slots ≡ true
MayBegin k running (Some asked.Wait) = running ≡ []
MayBegin k running None = Unit {0}

-- what is taken of the script by what it gives
abbrev pub taken_by : Next → List Asked
taken_by (next.Give (input.Begin number lane call)) = asked.Call (record { number = number; lane = lane; call = call }) ∷ []
taken_by next.Passed = asked.Wait ∷ []
taken_by other = []

-- a pause is passed where no call runs
abbrev pub Passes : Next → List ℕ → Type 0
Passes next.Passed running = running ≡ []
Passes other running = Unit {0}

-- the script was read on, and this was taken of it while these calls ran
pub record ScriptGives (n : Next) (running : List ℕ) (old new : Reads) : Type 0 where
  pub takes : (script : Option Coming) (faults : ℕ) (taken : List Asked) → Progress script faults taken old → Progress script faults (taken ++ taken_by n) new
  pub passed : Passes n running

-- why no more calls begin is told with the input that tells the client so, once nothing is held and no line is read; else it stays
abbrev pub OverBy : Result Next End → Option Over → Option Over → Place → Type 0
OverBy (Ok (next.Give input.End)) over over' place = (over ≡ None) × IsSome over' × IsStopped over' place
OverBy result over over' place = over' ≡ over

-- a step that ends the run with its script ends it for the reason for which no more calls begin
abbrev pub EndsOver : Result (Unit {0}) End → Option Over → Type 0
EndsOver result over = IfErr result (λ e. is_through e ≡ true → e ≡ end_by over)

-- what the lines ahead give a core that is mounted: the engine is told whether it is the end
abbrev pub GivesNext : Next → Kept → Place → Bool → Type 0
GivesNext (next.Give i) k ahead ended =
    MayTake i k × IsOfScript i × (ended ≡ ended_after i k.ended) × IsAhead (last_of (last_after i k.last)) ahead
    × (connected_after i (is_connected k.phase) ≡ is_connected k.phase)
GivesNext next.Passed k ahead ended = IsAhead (last_of k.last) ahead × (ended ≡ false)
GivesNext next.Nothing k ahead ended = IsAhead (last_of k.last) ahead × (ended ≡ false)

-- a piece was taken in: less than a frame, a whole frame and nothing behind it, or what begins no frame
abbrev pub TakesIn : Result (Option (List ℕ)) End → List ℕ → ℕ → List ℕ → ℕ → Type 0
TakesIn (Ok None) bytes received frames received' = (first_of bytes ≡ Partial) × (frames ≡ bytes) × (received' ≡ received)
TakesIn (Ok (Some frame)) bytes received frames received' =
    (first_of bytes ≡ Whole frame []) × (frames ≡ []) × (received' ≡ received + 1) × (received' < MAX_FRAMES)
TakesIn (Err end.Memory) bytes received frames received' = Unit {0}
TakesIn (Err end.Frames) bytes received frames received' = (frame : List ℕ) × (first_of bytes ≡ Whole frame []) × (received + 1 ≡ MAX_FRAMES)
TakesIn (Err (end.Frame number wrong.Length)) bytes received frames received' = (number ≡ received + 1) × IsNoFrame bytes
TakesIn (Err other) bytes received frames received' = ⊥

-- the core keeps what it has; of its outputs none is left where all were carried out
pub record CoreStays (result : Result (Unit {0}) End) (old new : CoreValue) : Type 0 where
  pub setting : new.setting ≡ old.setting
  pub kept : new.kept ≡ old.kept
  pub outs : OnOk result (new.outs ≡ [])

-- the engine has all but the core and the calls that run as it was
pub record AllElse (e e' : Engine) : Type 0 where
  pub ahead : e'.ahead ≡ e.ahead
  pub over : e'.over ≡ e.over
  pub frames : e'.frames ≡ e.frames
  pub received : e'.received ≡ e.received
  pub silences : e'.silences ≡ e.silences
  pub patience : e'.patience ≡ e.patience

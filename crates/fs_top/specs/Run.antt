-- A whole run of a script: what was done at the link and printed, turn by turn, and why it ended.
use Rattle.std.specs.Prelude.{◌≡◌, ◌⊎◌, ◌≤◌, ◌+◌, ℕ, Bool, true, false, ◌||◌, IfSome, List, [], ◌∷◌, ◌++◌, map, length, Option, Some, None, Ok, Err}
use Rattle.smb_link.specs.Came.{Seen, Came}
use Rattle.smb_link.specs.declared.event.Event.{Event}
use Rattle.smb_link.specs.declared.event.Event.TheVariants as event
use Rattle.smb_link.specs.declared.mark.Mark.TheVariants as mark
use Rattle.fs_types.specs.declared.options.Options.{Options}
use Rattle.fs_plain.specs.Honest.{IsHonest}
use Rattle.fs_client.specs.Item.{Item}
use Rattle.fs_client.specs.View.{Setting, Client, no_client}
use Rattle.fs_client.specs.After.{after, all_after}
use Rattle.fs_client.specs.May.{Allowed}
use Rattle.fs_core.specs.declared.fault.Protocol.TheVariants as protocol
use Rattle.fs_core.specs.Kept.{CoreValue}
use Rattle.fs_core.specs.Event.{events_of}
use Rattle.fs_core.specs.Start.{at_start}
use Rattle.fs_ahead.specs.declared.asked.Asked.{Asked}
use Rattle.fs_ahead.specs.declared.asked.Over.{Over}
use Rattle.fs_ahead.specs.declared.asked.ScriptCall.{ScriptCall}
use Rattle.fs_ahead.specs.Script.{Coming}
use Rattle.fs_ahead.specs.Progress.{IsFront, ReadTo, calls_of}
use Rattle.fs_top.specs.declared.run_end.End.{End}
use Rattle.fs_top.specs.declared.run_end.End.TheVariants as end
use Rattle.fs_top.specs.declared.run_end.Wrong.TheVariants as wrong
use Rattle.fs_top.specs.Causes.{end_by}
use Rattle.fs_top.specs.Causing.{CauseOf}
use Rattle.fs_top.specs.Closing.{errno_by, answers_of, CameAlone}
use Rattle.fs_top.specs.Ends.{PrintedSo, AreFew}
use Rattle.fs_top.specs.Given.{Follows, has_ended, AreTimes, told_with, is_through}
use Rattle.fs_top.specs.Printing.{Held, TookAll, TookFront}
use Rattle.fs_top.specs.RunEndings.{PrintedEnd}
use Rattle.fs_top.specs.Running.{JoinsSo, Joins}
use Rattle.fs_top.specs.Turns.{Turn, State, AreTurns, events_in, lines_at, lines_by}

-- the options of every run
abbrev pub run_options : Options
run_options = record {
  strict = true;
  mapposix = true;
  mfsymlinks = false;
  nobrl = false;
  ro = false;
  file_mode = 493;
  dir_mode = 493;
  rsize = 65536;
  wsize = 65536;
  closetimeo = 1;
  retries = 3;
  patience = 300;
}

-- how many connects are tried in a row
abbrev pub tries_of : Options → ℕ
tries_of options = options.retries + 1

-- the core that a run begins with: its wish for a connection was taken
abbrev pub core_of : List ℕ → List ℕ → List ℕ → CoreValue
core_of seed host share = record (at_start run_options seed seed host share) { outs = [] }

-- what the engine has once a connection was made
abbrev pub joined_with : CoreValue → State
joined_with core = record {
  core = core;
  running = [];
  held = [];
  received = 0;
  silences = 0;
  pending = [];
  connected = true;
  over = false;
}

-- the client then
abbrev pub joined_client : Setting → Client
joined_client st = after st no_client event.Joined

-- the calls that events begin, in order
abbrev pub begun_in : List Event → List ScriptCall
begun_in [] = []
begun_in (event.Marked (mark.Begin number lane call) ∷ events) = record { number = number; lane = lane; call = call } ∷ begun_in events
begun_in (e ∷ events) = begun_in events

-- these are the first ones of those
abbrev pub AreFirst : List ScriptCall → List ScriptCall → Type 0
AreFirst calls all = (later : List ScriptCall) × (all ≡ calls ++ later)

-- the calls that were begun are those that were taken of the script, all of them where the run ended with its script
abbrev pub BegunOf : End → List ScriptCall → List ScriptCall → Type 0
BegunOf why begun taken = AreFirst begun taken × (is_through why ≡ true → begun ≡ taken)

-- the script was read whole, up to its end or the first line that is refused, or its source failed; and a run that ended with its script
-- ended for that
pub record IsRead (why : End) (script : Option Coming) (faults faults' : ℕ) (taken : List Asked) : Type 0 where
  pub over : Over
  pub to : ReadTo over script faults faults' taken
  pub ends : is_through why ≡ true → why ≡ end_by (Some over)

-- the calls that a client has not answered, in the order of beginning
abbrev pub unanswered : Client → List ℕ
unanswered c = map (λ (i : Item). i.number) c.view.items

-- the run ended so, and the calls that were unanswered then were answered with the error number of the cause, where it has one: all of them,
-- or as many as memory and the sink allowed
abbrev pub ClosedSo : Option ℕ → End → End → List ℕ → List ℕ → Type 0
ClosedSo errno why last all closed =
    ((last ≡ why) × (closed ≡ all)) ⊎ (((last ≡ end.Memory) ⊎ (last ≡ end.Sink)) × ((later : List ℕ) × (all ≡ closed ++ later)))

abbrev pub closings_of : Option ℕ → List ℕ → List Event
closings_of None closed = []
closings_of (Some errno) closed = events_of (answers_of errno closed)

abbrev pub closing_lines : Option ℕ → List ℕ → List ℕ
closing_lines None closed = []
closing_lines (Some errno) closed = lines_by (answers_of errno closed)

-- their lines were printed, and the run ended as it did before, or for want of memory; or the sink took a front of the lines
abbrev pub PrintedClosing : End → End → List ℕ → Held → Held → Type 0
PrintedClosing why last text out out' =
    ((last ≡ why) × TookAll text out out') ⊎ (((last ≡ end.Memory) × TookAll text out out') ⊎ ((last ≡ end.Sink) × TookFront text out out'))

-- No connection was made, and nothing was read, told or printed.
pub record Unjoined (tries : ℕ) (stood : Bool) (faults faults' : ℕ) (told told' : Option (List ℕ)) (why last : End) (link link' : Seen) (out out' : Held) : Type 0 where
  pub joins : Joins tries stood (Err why) link link'
  pub ends : last ≡ why
  pub faults_are : faults' ≡ faults
  pub told_is : told' ≡ told
  pub printed : TookAll [] out out'

-- A connection was made, and turns were taken on it, each one input of the core, which the link, the script or the clock gave, and its outputs
-- in their order: it is what the client may do. The run ended for this cause, and the calls that were unanswered were closed.
pub record Turned (core : CoreValue) (tries patience : ℕ) (script : Option Coming) (faults faults' : ℕ) (told told' : Option (List ℕ)) (stood : Bool) (why last : End)
    (link link' : Seen) (out out' : Held) : Type 0 where
  pub joining : List Event
  pub joined : JoinsSo tries stood (Ok tt) joining
  pub turns : List Turn
  pub are : AreTurns (joined_with core) turns
  pub allowed : Allowed core.setting (joined_client core.setting) (events_in turns)
  pub cause : CauseOf core.setting patience (joined_client core.setting) (events_in turns) why
  pub few : AreFew why (all_after core.setting (joined_client core.setting) (events_in turns)).tally.frames
  pub taken : List Asked
  pub unbegun : List Asked
  pub one : length unbegun ≤ 1
  pub follows : Follows taken (joined_with core) turns
  pub calls : BegunOf why (begun_in (events_in turns)) (calls_of taken)
  pub front : IfSome script (IsFront (taken ++ unbegun))
  pub read : (why ≡ end.Memory → ⊥) → (is_through why || has_ended turns) ≡ true → (unbegun ≡ []) × IsRead why script faults faults' taken
  pub readings : List ℕ
  pub times : AreTimes (Err why) readings turns
  pub clock : told' ≡ told_with readings told
  pub middle : Seen
  pub came : Came (joining ++ events_in turns) link middle
  pub closed : List ℕ
  pub closes : ClosedSo (errno_by why) why last (unanswered (all_after core.setting (joined_client core.setting) (events_in turns))) closed
  pub came_last : CameAlone (closings_of (errno_by why) closed) middle link'
  pub between : Held
  pub printed : PrintedSo (Err why) (lines_at turns) out between
  pub printed_last : PrintedClosing why last (closing_lines (errno_by why) closed) between out'

-- what the server sent is wrong; for want of credits the run ends too, which are the server's to grant
abbrev pub is_foul : End → Bool
is_foul (end.Frame number (wrong.Protocol protocol.NoCredit)) = false
is_foul (end.Frame number what) = true
is_foul other = false

-- where the whole story is told and is one that an honest share tells, the run does not end by what the server sent
abbrev pub IsFair : Bool → Seen → Seen → End → Type 0
IsFair stood link link' why =
    stood ≡ false → link.story ≡ Some [] → (came : List Event) → link'.story ≡ Some came → (room : ℕ) (fold : Bool) → IsHonest room fold came → is_foul why ≡ false

-- A whole run over a script, where its source tells it, with the faults of the source before and after, and what the clock told.
pub record RunIs (core : CoreValue) (tries patience : ℕ) (script : Option Coming) (faults faults' : ℕ) (told told' : Option (List ℕ)) (stood : Bool)
    (link link' : Seen) (out out' : Held) (status : ℕ) : Type 0 where
  pub why : End
  pub last : End
  pub between : Held
  pub went : Unjoined tries stood faults faults' told told' why last link link' out between
      ⊎ Turned core tries patience script faults faults' told told' stood why last link link' out between
  pub printed : PrintedEnd last between out' status
  pub fair : IsFair stood link link' why

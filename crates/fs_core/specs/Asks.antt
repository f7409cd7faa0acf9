-- What a call asks for next.
use Rattle.std.specs.Prelude.{◌≡◌, ℕ, ◌==◌, Bool, true, false, if◌then◌else◌, List, [], ◌∷◌, map, Option, Some, None, option_map, Result, Ok, Err}
use Rattle.smb_base.specs.declared.names.Fid.{Fid}
use Rattle.smb_head.specs.declared.command.TheConstants.{CREATE, CLOSE, QUERY_INFO}
use Rattle.smb_head.specs.declared.request.Request.{Request}
use Rattle.smb_link.specs.Program.{Wish, Open as Opening, Query, Close, Own, File, Program, Say, at_path, of_errno, number_of_fault}
use Rattle.smb_names.specs.declared.fault.NameFault.{NameFault}
use Rattle.smb_names.specs.declared.fault.NameFault.TheVariants as name
use Rattle.fs_types.specs.declared.options.Options.{Options}
use Rattle.smb_mount.specs.declared.facts.Facts.{Facts}
use Rattle.smb_mount.specs.Requests.{tree_disconnect, logoff}
use Rattle.fs_client.specs.Mount.{Unmounted, Agreed, Challenging, InSession, asked_at}
use Rattle.fs_client.specs.Spelled.{request_for, every_bit}
use Rattle.fs_core.specs.declared.flight.Flight.{Flight}
use Rattle.fs_core.specs.declared.flight.Kind.{Kind}
use Rattle.fs_core.specs.declared.flight.Kind.TheVariants as kind
use Rattle.fs_core.specs.declared.phase.Phase.{Phase}
use Rattle.fs_core.specs.declared.phase.Phase.TheVariants as phase
use Rattle.fs_core.specs.declared.slot.Slot.{Slot}
use Rattle.fs_core.specs.declared.stat.Stat.{Stat}
use Rattle.fs_core.specs.declared.stat.Progress.{Progress}
use Rattle.fs_core.specs.declared.stat.Progress.TheVariants as progress
use Rattle.fs_core.specs.declared.stat.Outcome.{Outcome}
use Rattle.fs_core.specs.Parts.{slot_with, is_idle}

-- a path as the share has it: then a call goes on with it; or its fault, which is the call's answer
abbrev pub IsPathOnShare : Options → List ℕ → Result (List ℕ) NameFault → Type 0
IsPathOnShare options path (Ok wire) = (program : List ℕ → Program) → at_path options path program ≡ program wire
IsPathOnShare options path (Err name.NoMemory) = Unit {0}
IsPathOnShare options path (Err why) = (program : List ℕ → Program) → at_path options path program ≡ Say (of_errno (number_of_fault why))

-- the one open of a call
abbrev pub only : Fid → File → Fid
only fid file = fid

-- a stat opens what is there for reading its attributes; asks for all that is known of it; and closes it
abbrev pub open_wish : List ℕ → Wish
open_wish path = Opening path 0x100080 1 0

-- all three as one frame, the later two related to the first
abbrev pub chain_of : Facts → List ℕ → List Request
chain_of facts path =
    request_for facts (only every_bit) (false, open_wish path)
    ∷ request_for facts (only every_bit) (true, Query (Own 0))
    ∷ request_for facts (only every_bit) (true, Close (Own 0)) ∷ []

-- the next one alone; none where the answer is known
abbrev pub alone_by : Facts → List ℕ → Progress → List Request
alone_by facts path progress.Opening = request_for facts (only every_bit) (false, open_wish path) ∷ []
alone_by facts path (progress.Querying fid) = request_for facts (only fid) (false, Query (Own 0)) ∷ []
alone_by facts path (progress.Closing fid o) = request_for facts (only fid) (false, Close (Own 0)) ∷ []
alone_by facts path (progress.Said o) = []

abbrev pub alone_of : Facts → Stat → List Request
alone_of facts stat = alone_by facts stat.path stat.progress

-- what a request asks for, by its command
abbrev pub kind_of : ℕ → Kind
kind_of command =
    if command == CREATE then kind.Open else if command == QUERY_INFO then kind.Query else if command == CLOSE then kind.Close else kind.Aside

abbrev pub kinds_of : List Request → List (Kind × Bool)
kinds_of requests = map (λ (r : Request). (kind_of r.command, r.related)) requests

-- how far the call with a number has come
abbrev pub progress_with : ℕ → List Slot → Option Progress
progress_with number slots = option_map (λ (s : Slot). s.stat.progress) (slot_with number slots)

-- whether the call with a number asks for its first request, where it has nothing in flight and asks for something
abbrev pub asking_by : Option Progress → Option Bool
asking_by None = None
asking_by (Some progress.Opening) = Some true
asking_by (Some (progress.Querying fid)) = Some false
asking_by (Some (progress.Closing fid o)) = Some false
asking_by (Some (progress.Said o)) = None

abbrev pub asking_with : ℕ → List Flight → List Slot → Option Bool
asking_with number flights slots = if is_idle number flights then asking_by (progress_with number slots) else None

-- what a call says that has nothing in flight and its answer
abbrev pub said_by : Progress → Option Outcome
said_by progress.Opening = None
said_by (progress.Querying fid) = None
said_by (progress.Closing fid o) = None
said_by (progress.Said o) = Some o

abbrev pub said_if : Bool → ℕ → Option Outcome → Option (ℕ × Outcome) → Option (ℕ × Outcome)
said_if false number o others = others
said_if true number None others = others
said_if true number (Some o) others = Some (number, o)

-- the first such call
abbrev pub first_said : List Flight → List Slot → Option (ℕ × Outcome)
first_said flights [] = None
first_said flights (s ∷ slots) = said_if (is_idle s.number flights) s.number (said_by s.stat.progress) (first_said flights slots)

-- what is known of the mounted share
abbrev pub facts_of : Phase → Option Facts
facts_of (phase.On facts) = Some facts
facts_of (phase.LeavingTree facts) = Some facts
facts_of (phase.LeavingSession facts) = Some facts
facts_of other = None

-- what the mount asks next
abbrev pub mount_asks : Phase → Option Request
mount_asks (phase.Greeting k) = asked_at (Unmounted k)
mount_asks (phase.SettingUp k) = asked_at (Agreed k)
mount_asks (phase.Answering k) = asked_at (Challenging k)
mount_asks (phase.Joining k) = asked_at (InSession k)
mount_asks other = None

-- what leaves the share next: TREE_DISCONNECT once the end was said, then LOGOFF
abbrev pub leave_asks : Bool → Phase → Option Request
leave_asks ended (phase.On facts) = if ended then Some (tree_disconnect facts) else None
leave_asks ended (phase.LeavingTree facts) = Some (logoff facts)
leave_asks ended other = None

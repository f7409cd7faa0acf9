-- What the parts of an event make of what the core keeps.
use Rattle.std.specs.Prelude.{◌≡◌, ℕ, zero, suc, ◌+◌, ◌-◌, ◌^◌, ◌==◌, min, max, Bool, true, false, if◌then◌else◌, List, [], ◌∷◌, ◌++◌, length, map, Option, Some, None, Result, Ok, Err}
use Rattle.smb_base.specs.declared.names.Mid.{Mid}
use Rattle.smb_base.specs.declared.names.Status.{Status}
use Rattle.smb_base.specs.ErrorTable.{error_number}
use Rattle.fs_types.specs.declared.options.Options.{Options}
use Rattle.smb_head.specs.declared.command.TheConstants.{CREATE, CLOSE, QUERY_INFO}
use Rattle.smb_head.specs.declared.head.Head.{Head}
use Rattle.smb_head.specs.declared.head.HeadFault.{HeadFault}
use Rattle.smb_head.specs.declared.request.Request.{Request}
use Rattle.smb_head.specs.Header.{head_of}
use Rattle.share_state.specs.declared.request.Rep.{Rep}
use Rattle.share_state.specs.declared.request.RepBody.{RepBody}
use Rattle.share_state.specs.declared.request.RepBody.TheVariants as body
use Rattle.smb_link.specs.Stat.{kind_of, shown_mode}
use Rattle.smb_mount.specs.declared.fault.MountFault.{MountFault}
use Rattle.smb_mount.specs.declared.states.SetUp.TheVariants.{Challenged, Authenticated}
use Rattle.smb_mount.specs.Verdicts.{NegotiateEnds, SetUpEnds, SessionEnds, TreeEnds}
use Rattle.smb_mux.specs.declared.fault.Malformed.TheVariants as malformed
use Rattle.smb_mux.specs.declared.fault.TakeFault.{TakeFault}
use Rattle.smb_mux.specs.declared.fault.TakeFault.TheVariants as take_fault
use Rattle.smb_mux.specs.declared.taken.Reply.{Reply}
use Rattle.smb_mux.specs.declared.taken.Taken.{Taken}
use Rattle.smb_mux.specs.InFlight.{after_sending, after_taking}
use Rattle.fs_plain.specs.Masked.{Untold}
use Rattle.fs_plain.specs.Replies.{reply_by_status}
use Rattle.fs_core.specs.declared.fault.CoreFault.{CoreFault}
use Rattle.fs_core.specs.declared.fault.CoreFault.TheVariants as fault
use Rattle.fs_core.specs.declared.fault.Protocol.TheVariants as protocol
use Rattle.fs_core.specs.declared.flight.Flight.{Flight}
use Rattle.fs_core.specs.declared.flight.Kind.{Kind}
use Rattle.fs_core.specs.declared.flight.Kind.TheVariants as kind
use Rattle.fs_core.specs.declared.slot.Slot.{Slot}
use Rattle.fs_core.specs.declared.phase.Phase.{Phase}
use Rattle.fs_core.specs.declared.phase.Phase.TheVariants as phase
use Rattle.fs_core.specs.declared.stat.Stat.{Stat}
use Rattle.fs_core.specs.declared.stat.Progress.{Progress}
use Rattle.fs_core.specs.declared.stat.Progress.TheVariants as progress
use Rattle.fs_core.specs.declared.stat.Outcome.{Outcome}
use Rattle.fs_core.specs.declared.stat.Outcome.TheVariants as outcome
use Rattle.fs_core.specs.Kept.{Kept}
use Rattle.fs_core.specs.Parts.{on_slot, slots_but, flights_but, flight_with, is_first, behind, is_held, held_but}

-- a call begins; is answered
abbrev pub begun : ℕ → ℕ → Stat → Kept → Kept
begun number lane stat k = record k {
  slots = k.slots ++ record { number = number; lane = lane; announced = false; stat = stat } ∷ [];
  last = Some number;
}

abbrev pub answered : ℕ → Kept → Kept
answered number k = record k { slots = slots_but number k.slots }

-- the clock reads a time; it never goes back. The end is said
abbrev pub timed : ℕ → Kept → Kept
timed time k = record k { now = max k.now time }

abbrev pub over : Kept → Kept
over k = record k { ended = true }

-- the id behind one
abbrev pub id_behind : ℕ → ℕ
id_behind id = min (id + 1) (2 ^ 64 - 1)

-- requests of these kinds, related to the one before them or not, in a frame, under ids from one on
abbrev pub flights_from : Option ℕ → Mid → ℕ → List (Kind × Bool) → List Flight
flights_from owner frame id [] = []
flights_from owner frame id (k ∷ ks) =
    record { mid = record { 0 = id }; frame = frame; owner = owner; kind = k.0; related = k.1; refused = false }
    ∷ flights_from owner frame (id_behind id) ks

-- a call sends requests, in one frame
abbrev pub spoken : Slot → Slot
spoken s = record s { announced = true }

abbrev pub sent_for : ℕ → Mid → List (Kind × Bool) → List Request → Kept → Kept
sent_for number first kinds requests k = record k {
  slots = on_slot number spoken k.slots;
  flights = k.flights ++ flights_from (Some number) first first.0 kinds;
  mux = after_sending requests k.mux;
}

-- the connection itself sends a request, and has come this far then
abbrev pub sent_aside : Phase → Mid → Request → Kept → Kept
sent_aside phase first request k = record k {
  flights = k.flights ++ flights_from None first first.0 ((kind.Aside, false) ∷ []);
  mux = after_sending (request ∷ []) k.mux;
  phase = phase;
}

-- what a reply to a stat's query came to
abbrev pub outcome_of_body : Options → RepBody → Outcome
outcome_of_body options (body.Info dir size read_only links pending number) = outcome.Known (record {
  kind = kind_of dir;
  size = size;
  mode = shown_mode options dir read_only;
  links = links;
  number = number;
})
outcome_of_body options other = outcome.Failed (record { 0 = 5 }) None

abbrev pub failed_with : ℕ → Status → Outcome
failed_with number status = if number == 121 then outcome.Failed (record { 0 = number }) (Some status) else outcome.Failed (record { 0 = number }) None

abbrev pub refused_with : Status → Outcome
refused_with status = failed_with (error_number status.0) status

abbrev pub outcome_of : Options → Rep → Outcome
outcome_of options reply = if reply.status.0 == 0 then outcome_of_body options reply.body else refused_with reply.status

-- a stat goes on, its next request having this reply
abbrev pub opened_with : RepBody → Progress
opened_with (body.Opened fid action size attributes lease durable) = progress.Querying fid
opened_with other = progress.Said (outcome.Failed (record { 0 = 5 }) None)

abbrev pub advanced_by : Options → Rep → Progress → Progress
advanced_by options reply progress.Opening = if reply.status.0 == 0 then opened_with reply.body else progress.Said (refused_with reply.status)
advanced_by options reply (progress.Querying fid) = progress.Closing fid (outcome_of options reply)
advanced_by options reply (progress.Closing fid o) = progress.Said o
advanced_by options reply (progress.Said o) = progress.Said o

abbrev pub advanced_slot : Options → Rep → Slot → Slot
advanced_slot options reply s = record s { stat = record s.stat { progress = advanced_by options reply s.stat.progress } }

-- the calls once a reply to this request came to its turn
abbrev pub slots_gone_on : Options → Option ℕ → Bool → Rep → List Slot → List Slot
slots_gone_on options None refused reply slots = slots
slots_gone_on options (Some number) refused reply slots =
    if refused then slots else on_slot number (advanced_slot options reply) slots

-- the requests in flight then: those behind a CREATE of their frame are refused with it, or not
abbrev pub gives_open : RepBody → Bool
gives_open (body.Opened fid action size attributes lease durable) = true
gives_open other = false

abbrev pub is_open : Kind → Bool
is_open kind.Open = true
is_open other = false

abbrev pub flights_left : Flight → Rep → List Flight → List Flight
flights_left f reply flights =
    if is_open f.kind then map (behind f.frame (if gives_open reply.body then false else true)) (flights_but f.mid flights)
    else flights_but f.mid flights

-- a request is answered, in its turn
abbrev pub gone : Options → Flight → Rep → Kept → Kept
gone options f reply k = record k {
  slots = slots_gone_on options f.owner f.refused reply k.slots;
  flights = flights_left f reply k.flights;
  early = held_but f.mid k.early;
}

-- the first early reply whose request has come to its turn
abbrev pub turn_if : Option Flight → List Flight → Rep → Option (Flight × Rep) → Option (Flight × Rep)
turn_if None flights reply others = others
turn_if (Some f) flights reply others = if is_first flights f then Some (f, reply) else others

abbrev pub next_turn : List Flight → List (Mid × Rep) → Option (Flight × Rep)
next_turn flights [] = None
next_turn flights (e ∷ early) = turn_if (flight_with e.0 flights) flights e.1 (next_turn flights early)

-- so many early replies at most come to their turn, one after another
abbrev pub turned_with : Options → Option (Flight × Rep) → (Kept → Kept) → Kept → Kept
turned_with options None others k = k
turned_with options (Some next) others k = others (gone options next.0 next.1 k)

abbrev pub turned : Options → ℕ → Kept → Kept
turned options zero k = k
turned options (suc n) k = turned_with options (next_turn k.flights k.early) (turned options n) k

-- a final reply lands: at its turn, and then those that waited for it; else it waits itself
abbrev pub landed : Options → Flight → Rep → Kept → Kept
landed options f reply k =
    if is_first k.flights f then turned options (length k.early) (gone options f reply k)
    else record k { early = k.early ++ (f.mid, reply) ∷ [] }

-- a request of the connection itself is answered
abbrev pub aside_gone : Flight → Phase → Kept → Kept
aside_gone f phase k = record k { flights = flights_but f.mid k.flights; phase = phase }

-- a frame is taken: its replies are awaited no longer, and what it grants may be used
abbrev pub with_frame : List ℕ → Taken → Kept → Kept
with_frame frame taken k = record k { mux = after_taking frame taken k.mux }

-- how far the connection has come once a request of its own has this reply: a mount goes on, and nothing else does
abbrev pub LeadsTo : Phase → List ℕ → Phase → Type 0
LeadsTo (phase.Greeting k) part (phase.SettingUp next) = NegotiateEnds k (head_of part) part (Ok next)
LeadsTo (phase.SettingUp k) part (phase.Answering next) = SetUpEnds k (head_of part) part (Ok (Challenged next))
LeadsTo (phase.SettingUp k) part (phase.Joining next) = SetUpEnds k (head_of part) part (Ok (Authenticated next))
LeadsTo (phase.Answering k) part (phase.Joining next) = SessionEnds k (head_of part) part (Ok next)
LeadsTo (phase.Joining k) part (phase.On facts) = TreeEnds k (head_of part) part (Ok facts)
LeadsTo (phase.Greeting k) part other = ⊥
LeadsTo (phase.SettingUp k) part other = ⊥
LeadsTo (phase.Answering k) part other = ⊥
LeadsTo (phase.Joining k) part other = ⊥
LeadsTo other part next = next ≡ other

-- or the mount fails
abbrev pub FailsIn : Phase → List ℕ → MountFault → Type 0
FailsIn (phase.Greeting k) part f = NegotiateEnds k (head_of part) part (Err f)
FailsIn (phase.SettingUp k) part f = SetUpEnds k (head_of part) part (Err f)
FailsIn (phase.Answering k) part f = SessionEnds k (head_of part) part (Err f)
FailsIn (phase.Joining k) part f = TreeEnds k (head_of part) part (Err f)
FailsIn other part f = ⊥

-- what a message with this header says to a request of this command, where it says nothing, and that it does
abbrev pub said_by : Result Head HeadFault → ℕ → List ℕ → Option Rep
said_by (Err f) command part = None
said_by (Ok head) command part = reply_by_status Untold.Nothing head.status.0 command part

abbrev pub said_in : ℕ → List ℕ → Option Rep
said_in command part = said_by (head_of part) command part

abbrev pub LandsSaid : Options → ℕ → Flight → List ℕ → Kept → Kept → Type 0
LandsSaid options command f part k k' = (reply : Rep) × (said_in command part ≡ Some reply) × (k' ≡ landed options f reply k)

-- a reply to this request lands: one to the connection itself leads on, another is read and lands at its turn
abbrev pub LandsAs : Options → Kind → Flight → List ℕ → Kept → Kept → Type 0
LandsAs options kind.Open f part k k' = LandsSaid options CREATE f part k k'
LandsAs options kind.Query f part k k' = LandsSaid options QUERY_INFO f part k k'
LandsAs options kind.Close f part k k' = LandsSaid options CLOSE f part k k'
LandsAs options kind.Aside f part k k' = LeadsTo k.phase part k'.phase × (k' ≡ aside_gone f k'.phase k)

abbrev pub LandsFor : Options → Option Flight → List ℕ → Kept → Kept → Type 0
LandsFor options None part k k' = k' ≡ k
LandsFor options (Some f) part k k' = LandsAs options f.kind f part k k'

-- the request in flight with an id to which no reply is held
abbrev pub waiting_with : Mid → Kept → Option Flight
waiting_with mid k = if is_held mid k.early then None else flight_with mid k.flights

abbrev pub Lands : Options → Reply → Kept → Kept → Type 0
Lands options reply k k' = LandsFor options (waiting_with reply.mid k) reply.part k k'

-- replies land, one after another
abbrev pub LandAll : Options → List Reply → Kept → Kept → Type 0
LandAll options [] k k' = k' ≡ k
LandAll options (r ∷ replies) k k' = (between : Kept) × Lands options r k between × LandAll options replies between k'

-- the fault of a frame that cannot be taken
abbrev pub fault_for : TakeFault → CoreFault
fault_for take_fault.NoMemory = fault.NoMemory
fault_for (take_fault.Malformed (malformed.Head f)) = fault.Protocol (protocol.Head f)
fault_for (take_fault.Malformed (malformed.Body f)) = fault.Protocol (protocol.Body f)
fault_for (take_fault.Malformed malformed.Chain) = fault.Protocol protocol.Chain
fault_for (take_fault.Stranger mid) = fault.Protocol (protocol.Stranger mid)

-- What the parts of an event do, one by one.
use Rattle.std.specs.Prelude.{◌≡◌, IsOk, ℕ, ◌≤◌, ◌<◌, Bool, true, false, is_ok, slice_get, List, [], ◌∷◌, ◌++◌, length, Some, None, Result, Ok, Err}
use Rattle.std.specs.List.{AllByRecursion}
use Rattle.smb_base.specs.declared.names.Mid.{Mid}
use Rattle.smb_head.specs.declared.request.Request.{Request}
use Rattle.smb_head.specs.declared.command.TheConstants.{CREATE, CLOSE, QUERY_INFO}
use Rattle.smb_head.specs.declared.head.Head.{Head}
use Rattle.smb_head.specs.declared.head.HeadFault.{HeadFault}
use Rattle.smb_head.specs.Header.{head_of}
use Rattle.smb_body_c.specs.Directory.{buffer_reply_of}
use Rattle.smb_head.specs.Stream as stream
use Rattle.smb_chain.specs.Chain.{chain}
use Rattle.smb_credit.specs.Window.{usable, least}
use Rattle.smb_mount.specs.declared.fault.MountFault.{MountFault}
use Rattle.smb_mount.specs.declared.fault.MountFault.TheVariants as mount_fault
use Rattle.smb_mux.specs.InFlight.{start}
use Rattle.smb_mux.specs.Sending.{costs, placed}
use Rattle.smb_mux.specs.declared.taken.Reply.{Reply}
use Rattle.smb_link.specs.declared.mark.Mark.TheVariants as mark
use Rattle.fs_types.specs.declared.options.Options.{Options}
use Rattle.fs_core.specs.declared.fault.CoreFault.{CoreFault}
use Rattle.fs_core.specs.declared.fault.CoreFault.TheVariants as fault
use Rattle.fs_core.specs.declared.fault.Protocol.TheVariants as protocol
use Rattle.fs_core.specs.declared.flight.Flight.{Flight}
use Rattle.fs_core.specs.declared.flight.Kind.{Kind}
use Rattle.fs_core.specs.declared.flight.Kind.TheVariants as kind
use Rattle.fs_core.specs.declared.output.Output.TheVariants as output
use Rattle.fs_core.specs.declared.read.WireFault.{WireFault}
use Rattle.fs_core.specs.declared.read.WireFault.TheVariants as wire
use Rattle.fs_core.specs.declared.phase.Phase.{Phase}
use Rattle.fs_core.specs.declared.phase.Phase.TheVariants as phase
use Rattle.fs_core.specs.declared.slot.Slot.{Slot}
use Rattle.fs_core.specs.declared.stat.Progress.TheVariants as progress
use Rattle.smb_mount.specs.declared.facts.Facts.{Facts}
use Rattle.fs_core.specs.Written.{IsPath, IsWritable}
use Rattle.fs_core.specs.Asks.{chain_of, alone_of, kinds_of, said_by, progress_with, mount_asks}
use Rattle.fs_core.specs.Kept.{Kept, CoreValue}
use Rattle.fs_core.specs.Parts.{slot_with, on_slot, is_idle}
use Rattle.fs_core.specs.Seen.{is_done}
use Rattle.fs_core.specs.Steps.{spoken, flights_from, sent_for, sent_aside, said_in, LeadsTo, FailsIn, LandAll, waiting_with}

-- a reply to a request of the connection's own leads from one phase to another, or ends the mount
abbrev pub Ends : Phase → List ℕ → Result Phase MountFault → Type 0
Ends phase part (Ok next) = LeadsTo phase part next
Ends phase part (Err f) = FailsIn phase part f

-- the fault of a reply that is not read, and of a mount that is refused
abbrev pub wire_fault_for : WireFault → CoreFault
wire_fault_for (wire.Body f) = fault.Protocol (protocol.Body f)
wire_fault_for (wire.Info f) = fault.Protocol (protocol.Info f)

abbrev pub mount_fault_for : MountFault → CoreFault
mount_fault_for (mount_fault.Malformed f) = fault.Protocol (protocol.Body f)
mount_fault_for mount_fault.NoMemory = fault.NoMemory
mount_fault_for other = fault.Refused other

-- a message has another body than its command and its status say
abbrev pub HasNoBody : ℕ → List ℕ → Result Head HeadFault → Type 0
HasNoBody command part (Err f) = ⊥
HasNoBody command part (Ok head) =
    (said_in command part ≡ None) × (is_done head.status.0 command ≡ true → command ≡ QUERY_INFO → is_ok (buffer_reply_of part) ≡ false)

-- why a reply to a request of a call stops the core: it has no header, no body of its command, or no information that can be read
abbrev pub StopsSaid : ℕ → List ℕ → CoreFault → Type 0
StopsSaid command part fault.NoMemory = Unit {0}
StopsSaid command part (fault.Protocol (protocol.Head f)) = head_of part ≡ Err f
StopsSaid command part (fault.Protocol (protocol.Body f)) = HasNoBody command part (head_of part)
StopsSaid command part (fault.Protocol (protocol.Info f)) = (command ≡ QUERY_INFO) × (said_in command part ≡ None)
StopsSaid command part other = ⊥

-- why a reply to a request of the connection itself does
abbrev pub StopsAside : Phase → List ℕ → CoreFault → Type 0
StopsAside phase part f = (why : MountFault) × FailsIn phase part why × (f ≡ mount_fault_for why)

-- why a reply to this request does
abbrev pub StopsAs : Kind → List ℕ → Kept → CoreFault → Type 0
StopsAs kind.Open part k f = StopsSaid CREATE part f
StopsAs kind.Query part k f = StopsSaid QUERY_INFO part f
StopsAs kind.Close part k f = StopsSaid CLOSE part f
StopsAs kind.Aside part k f = StopsAside k.phase part f

abbrev pub StopsWith : Flight → List ℕ → Kept → CoreFault → Type 0
StopsWith flight part k f = StopsAs flight.kind part k f

-- why a reply does
pub record StopsAt (r : Reply) (k : Kept) (f : CoreFault) : Type 0 where
  pub flight : Flight
  pub waits : waiting_with r.mid k ≡ Some flight
  pub stops : StopsWith flight r.part k f

-- why replies stop it: those before one land, and that one stops it
pub record StopsAmong (options : Options) (replies : List Reply) (k : Kept) (f : CoreFault) : Type 0 where
  pub before : List Reply
  pub reply : Reply
  pub later : List Reply
  pub told : replies ≡ before ++ reply ∷ later
  pub between : Kept
  pub land : LandAll options before k between
  pub stops : StopsAt reply between f

-- a call with nothing in flight asks for something; where it asks for its first request alone, the ids are too few for all three
pub record IsWaiting (number : ℕ) (k : Kept) : Type 0 where
  pub slot : Slot
  pub found : slot_with number k.slots ≡ Some slot
  pub idle : is_idle number k.flights ≡ true
  pub asks : said_by slot.stat.progress ≡ None

abbrev pub AreFew : ℕ → Kept → Type 0
AreFew number k = progress_with number k.slots ≡ Some progress.Opening → length (usable k.mux.ids) < 3

-- requests are those of this call: all three, or the next one
pub record IsChainWith (facts : Facts) (number : ℕ) (k : Kept) (requests : List Request) : Type 0 where
  pub slot : Slot
  pub found : slot_with number k.slots ≡ Some slot
  pub path : IsPath slot.stat.path
  pub are : requests ≡ chain_of facts slot.stat.path

pub record IsAloneWith (facts : Facts) (number : ℕ) (k : Kept) (requests : List Request) : Type 0 where
  pub slot : Slot
  pub found : slot_with number k.slots ≡ Some slot
  pub can : IsWritable slot.stat.path slot.stat.progress
  pub are : requests ≡ alone_of facts slot.stat

-- requests of a call are sent as one frame, behind the mark that speaks of it
pub record Sends (number : ℕ) (requests : List Request) (old new : CoreValue) : Type 0 where
  pub first : Mid
  pub frame : List ℕ
  pub id : first.0 ≡ least old.kept.mux.ids
  pub spelled : frame ≡ stream.frame (chain (placed old.kept.mux.ids requests))
  pub enough : costs requests ≤ length (usable old.kept.mux.ids)
  pub setting : new.setting ≡ old.setting
  pub outs : new.outs ≡ old.outs ++ output.Marked (mark.For number first (length requests)) ∷ output.Send frame ∷ []
  pub kept : new.kept ≡ sent_for number first (kinds_of requests) requests old.kept

-- they are, or nothing is changed where the ids do not suffice
abbrev pub Tries : ℕ → List Request → Bool → CoreValue → CoreValue → Type 0
Tries number requests true old new = Sends number requests old new
Tries number requests false old new = (new ≡ old) × (length (usable old.kept.mux.ids) < costs requests)

-- a request of the connection itself is sent
pub record SendsAside (request : Request) (old new : CoreValue) : Type 0 where
  pub first : Mid
  pub frame : List ℕ
  pub id : first.0 ≡ least old.kept.mux.ids
  pub spelled : frame ≡ stream.frame (chain (placed old.kept.mux.ids (request ∷ [])))
  pub enough : costs (request ∷ []) ≤ length (usable old.kept.mux.ids)
  pub setting : new.setting ≡ old.setting
  pub outs : new.outs ≡ old.outs ++ output.Send frame ∷ []
  pub kept : new.kept ≡ sent_aside old.kept.phase first request old.kept

-- the ids do not suffice for it, or memory ran out
abbrev pub FailsToSend : Request → CoreValue → CoreFault → Type 0
FailsToSend request old fault.NoMemory = Unit {0}
FailsToSend request old (fault.Protocol protocol.NoCredit) = length (usable old.kept.mux.ids) < costs (request ∷ [])
FailsToSend request old other = ⊥

-- once the calls have sent what they ask for, none runs where nothing is in flight; nor is a mount under way once that was asked
abbrev pub IsQuiet : Kept → Type 0
IsQuiet k = k.flights ≡ [] → k.slots ≡ []

abbrev pub IsStill : Kept → Type 0
IsStill k = k.flights ≡ [] → (k.slots ≡ []) × (mount_asks k.phase ≡ None)

-- a call that is looked at and does not send has its answer, or is none
abbrev pub IsNoAsker : ℕ → Kept → Type 0
IsNoAsker number k = (slot : Slot) → slot_with number k.slots ≡ Some slot → said_by slot.stat.progress ≡ None → ⊥

-- where nothing is in flight behind a part, it did nothing, and this call had nothing to ask
abbrev pub Looks : ℕ → CoreValue → CoreValue → Type 0
Looks number old new = new.kept.flights ≡ [] → (new ≡ old) × IsNoAsker number old.kept

-- the phase when the request that leaves the share is sent, or was answered
abbrev pub left_of : Phase → Phase
left_of (phase.On facts) = phase.LeavingTree facts
left_of (phase.LeavingTree facts) = phase.LeavingSession facts
left_of (phase.LeavingSession facts) = phase.Left
left_of other = other

-- the core with other things kept, and with another phase
abbrev pub with_kept : Kept → CoreValue → CoreValue
with_kept k v = record v { kept = k }

abbrev pub with_phase : Phase → CoreValue → CoreValue
with_phase phase v = record v { kept = record v.kept { phase = phase } }

-- requests of a call, or one of the connection itself, are in flight
abbrev pub flown : ℕ → Mid → List Request → Kept → Kept
flown number first requests k = record k {
  slots = on_slot number spoken k.slots;
  flights = k.flights ++ flights_from (Some number) first first.0 (kinds_of requests);
}

abbrev pub flown_aside : Mid → Kept → Kept
flown_aside first k = record k { flights = k.flights ++ flights_from None first first.0 ((kind.Aside, false) ∷ []) }

-- the same for the call at an index
abbrev pub LooksAt : ℕ → CoreValue → CoreValue → Type 0
LooksAt index old new =
    new.kept.flights ≡ [] → (new ≡ old) × ((s : Slot) → slice_get old.kept.slots index ≡ Some s → IsNoAsker s.number old.kept)

-- the connection is lost, and what it carried with it
abbrev pub cut_off : Kept → Kept
cut_off k = record k { slots = []; flights = []; early = []; mux = start; phase = phase.Lost }

-- the phase once a connection is made
abbrev pub greeting_of : Phase → Phase
greeting_of (phase.Apart mount) = phase.Greeting mount
greeting_of other = other

-- the header of each reply reads
abbrev pub AreRead : List Reply → Type 0
AreRead replies = AllByRecursion (λ (r : Reply). IsOk (head_of r.part)) replies

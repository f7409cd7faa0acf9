-- When a run has to do all that its script asks for.
use Rattle.std.specs.Prelude.{◌≡◌, ◌⊎◌, ◌<◌, ◌-◌, ◌^◌, ◌+◌, ◌==◌, ℕ, Bool, true, not, ◌||◌, if◌then◌else◌, List, [], ◌∷◌, ◌++◌, Option, Some}
use Rattle.std.specs.List.{AllByRecursion, list_all}
use Rattle.smb_link.specs.declared.event.Event.{Event}
use Rattle.smb_link.specs.declared.event.Event.TheVariants as event
use Rattle.smb_link.specs.declared.mark.Mark.TheVariants as mark
use Rattle.smb_link.specs.Came.{own, is_refusal, is_cut}
use Rattle.smb_mount.specs.declared.fault.MountFault.{MountFault}
use Rattle.fs_plain.specs.Honest.{IsHonest}
use Rattle.fs_ahead.specs.declared.asked.ScriptCall.{ScriptCall}
use Rattle.fs_ahead.specs.declared.asked.Over.TheVariants as over
use Rattle.fs_ahead.specs.Script.{Coming}
use Rattle.fs_ahead.specs.Progress.{calls_of}
use Rattle.fs_client.specs.View.{Setting, Client, no_client}
use Rattle.fs_client.specs.After.{all_after}
use Rattle.fs_client.specs.Spelled.{free_ids}
use Rattle.fs_core.specs.Event.{IsRefused}
use Rattle.fs_top.specs.declared.hear.TheConstants.{MAX_FRAMES}
use Rattle.fs_top.specs.Endings.{IsUnheard}
use Rattle.fs_top.specs.Printing.{Held}
use Rattle.fs_top.specs.Run.{begun_in}

-- at each moment of these events this holds of the client
abbrev pub Always : Setting → List Event → (Client → Type 0) → Type 0
Always st events P = (front rest : List Event) → events ≡ front ++ rest → P (all_after st no_client front)

-- the share does not refuse the mount
abbrev pub IsAccepted : Setting → Client → Type 0
IsAccepted st c = (why : MountFault) → IsRefused st c why → ⊥

-- On a connection on which nothing is in flight an id is free: no server leaves a client without a credit (MS-SMB2 3.3.1.2).
abbrev pub HasCredit : Client → Type 0
HasCredit c = c.view.connected ≡ true → c.view.flights ≡ [] → 0 < free_ids c

-- no connect is refused, and no connection ends
abbrev pub is_steady : Event → Bool
is_steady e = not (is_refusal e || is_cut e)

-- the server is not silent for so many receives in a row while a request is in flight
abbrev pub IsLively : Setting → ℕ → List Event → Type 0
IsLively st patience events = (front rest : List Event) → events ≡ front ++ rest → IsUnheard st no_client patience front → ⊥

-- a story of an honest share on a connection that lets a run do all that it is asked for: it stays, the mount is accepted, credits are
-- granted, the server is not silent, and fewer frames come than end a run
pub record Favours (st : Setting) (patience : ℕ) (room : ℕ) (fold : Bool) (story : List Event) : Type 0 where
  pub honest : IsHonest room fold story
  pub steady : list_all is_steady (own story) ≡ true
  pub accepted : Always st (own story) (IsAccepted st)
  pub granted : Always st (own story) HasCredit
  pub lively : IsLively st patience (own story)
  pub few : (all_after st no_client (own story)).tally.frames < MAX_FRAMES

-- a script whose source tells it, each line of which is one
pub record IsValid (script : Option Coming) (coming : Coming) : Type 0 where
  pub told : script ≡ Some coming
  pub whole : coming.over ≡ over.End

-- a count of faults did not rise, and could have
pub record IsSame (before after : ℕ) : Type 0 where
  pub same : after ≡ before
  pub room : before < 2 ^ 64 - 1

-- no read fails, and the sink takes all that it is given
pub record AreSound (faults faults' : ℕ) (out out' : Held) : Type 0 where
  pub source : IsSame faults faults'
  pub writes : IsSame out.faults out'.faults
  pub stalls : IsSame out.stalls out'.stalls

-- how often events answer the line with this number
abbrev pub times_answered : ℕ → List Event → ℕ
times_answered number [] = 0
times_answered number (event.Marked (mark.Answer n a) ∷ events) = (if n == number then 1 else 0) + times_answered number events
times_answered number (e ∷ events) = times_answered number events

-- the calls of a script were begun, in order, and each was answered once
pub record IsCarriedOut (coming : Coming) (events : List Event) : Type 0 where
  pub begun : begun_in events ≡ calls_of coming.asked
  pub answered : AllByRecursion (λ (x : ScriptCall). times_answered x.number events ≡ 1) (calls_of coming.asked)

-- Where all this holds the script is carried out: the status is 0. Or memory ran out.
abbrev pub Completes : Setting → ℕ → Option Coming → ℕ → ℕ → Held → Held → Option (List Event) → ℕ → Type 0
Completes st patience script faults faults' out out' story status =
    (came : List Event) → story ≡ Some came → (room : ℕ) (fold : Bool) → Favours st patience room fold came
    → (coming : Coming) → IsValid script coming → AreSound faults faults' out out'
    → ((status ≡ 0) × IsCarriedOut coming (own came)) ⊎ (status ≡ 3)

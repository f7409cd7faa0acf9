-- Why a run ended, told of its client: what it did and heard.
use Rattle.std.specs.Prelude.{◌≡◌, ℕ, ◌+◌, List, [], ◌∷◌, ◌++◌}
use Rattle.smb_head.specs.declared.first.FrameFault.{FrameFault}
use Rattle.smb_head.specs.Stream.{first_of, Bad}
use Rattle.smb_link.specs.declared.event.Event.{Event}
use Rattle.smb_link.specs.declared.event.Event.TheVariants as event
use Rattle.fs_client.specs.View.{Setting, Client}
use Rattle.fs_client.specs.After.{all_after}
use Rattle.fs_core.specs.declared.fault.CoreFault.{CoreFault}
use Rattle.fs_core.specs.declared.fault.CoreFault.TheVariants as fault
use Rattle.fs_core.specs.declared.input.Input.{Input}
use Rattle.fs_core.specs.declared.input.Input.TheVariants as input
use Rattle.fs_core.specs.Event.{Brought, CausedBy}
use Rattle.fs_top.specs.declared.hear.TheConstants.{MAX_FRAMES}
use Rattle.fs_top.specs.declared.run_end.End.{End}
use Rattle.fs_top.specs.declared.run_end.End.TheVariants as end
use Rattle.fs_top.specs.declared.run_end.Wrong.TheVariants as wrong
use Rattle.fs_top.specs.Clients.{IsLeft}
use Rattle.fs_top.specs.Endings.{IsBy, IsUnheard}

-- the events end in the receive whose bytes made this frame whole, and this is the client before it
pub record IsJustBefore (st : Setting) (c : Client) (events : List Event) (frame : List ℕ) (before : Client) : Type 0 where
  pub by : IsBy st c events frame
  pub is : before ≡ all_after st c by.before

-- of the inputs of a client a frame comes in the last event; the others are given by the script, the clock, or the first connect
abbrev pub ComesLast : Setting → Client → List Event → Input → Client → Type 0
ComesLast st c events (input.Frame frame) before = IsJustBefore st c events frame before
ComesLast st c events other before = Unit {0}

-- the client stops behind these events, at an input before which it was this client
pub record IsStopped (st : Setting) (c : Client) (events : List Event) (why : CoreFault) : Type 0 where
  pub before : Client
  pub input : Input
  pub comes : ComesLast st c events input before
  pub brought : Brought st input before (all_after st c events)
  pub caused : CausedBy st input before (all_after st c events) why

-- the bytes that came last begin no frame
pub record BeginsNoFrame (c : Client) : Type 0 where
  pub fault : FrameFault
  pub bad : first_of c.view.held ≡ Bad fault

-- the link ended the connection, or nothing came for as many receives in a row while a request was in flight
pub data IsLost (st : Setting) (patience : ℕ) (c : Client) (events : List Event) : Type 0 where
  ByLink : (before : List Event) → events ≡ before ++ event.Cut ∷ [] → IsLost st patience c events
  BySilence : IsUnheard st c patience events → IsLost st patience c events

-- The cause of an end of a run: what the client of a connection did and heard from then on. Want of memory has none, a sink that refuses is
-- no matter of the client, and connects fail before there is a connection.
abbrev pub CauseOf : Setting → ℕ → Client → List Event → End → Type 0
CauseOf st patience c events end.Done = IsLeft (all_after st c events)
CauseOf st patience c events (end.Line number) = IsLeft (all_after st c events)
CauseOf st patience c events end.Source = IsLeft (all_after st c events)
CauseOf st patience c events (end.Mount why) = IsStopped st c events (fault.Refused why)
CauseOf st patience c events (end.Frame n wrong.Length) = (n ≡ (all_after st c events).tally.frames + 1) × BeginsNoFrame (all_after st c events)
CauseOf st patience c events (end.Frame n (wrong.Protocol why)) =
    (n ≡ (all_after st c events).tally.frames) × IsStopped st c events (fault.Protocol why)
CauseOf st patience c events end.Cuts = IsLost st patience c events
CauseOf st patience c events end.Frames = (all_after st c events).tally.frames ≡ MAX_FRAMES
CauseOf st patience c events end.Memory = Unit {0}
CauseOf st patience c events end.Sink = Unit {0}
CauseOf st patience c events (end.Connects n) = ⊥

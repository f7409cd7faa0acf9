-- The causes of the ends of a run.
use Rattle.std.specs.Prelude.{◌≡◌, ◌⊎◌, ◌<◌, ℕ, ◌+◌, true, false, List, [], Result, Err}
use Rattle.smb_head.specs.declared.first.FrameFault.{FrameFault}
use Rattle.smb_head.specs.Stream.{Bad, first_of}
use Rattle.fs_core.specs.declared.fault.CoreFault.{CoreFault}
use Rattle.fs_core.specs.declared.fault.CoreFault.TheVariants as fault
use Rattle.fs_core.specs.declared.input.Input.{Input}
use Rattle.fs_core.specs.Event.{IsFaultOf, MayTake, is_connected, connected_after}
use Rattle.fs_top.specs.declared.run_end.End.{End}
use Rattle.fs_top.specs.declared.run_end.End.TheVariants as end
use Rattle.fs_top.specs.declared.run_end.Wrong.TheVariants as wrong
use Rattle.fs_top.specs.declared.hear.TheConstants.{MAX_FRAMES}
use Rattle.fs_top.specs.Printing.{Held, TookAll, TookFront}
use Rattle.fs_top.specs.Turns.{State, pending_of}

-- the core stops with this fault at an input that may come, and that was given on a connection that stands, once all outputs were carried
-- out
pub record StopsAt (s : State) (why : CoreFault) : Type 0 where
  pub input : Input
  pub may : MayTake input s.core.kept
  pub connects : connected_after input (is_connected s.core.kept.phase) ≡ true
  pub nothing_left : s.core.outs ≡ []
  pub stands : s.connected ≡ true
  pub given : s.pending ≡ pending_of input
  pub is : IsFaultOf input s.core why

-- what came begins no frame
pub record IsNoFrame (held : List ℕ) : Type 0 where
  pub fault : FrameFault
  pub bad : first_of held ≡ Bad fault

-- The cause of an end, in what the engine has then. Want of memory has none, and a sink that refuses is not at the link; connects fail before
-- the first turn.
abbrev pub EndsAt : ℕ → End → State → Type 0
EndsAt patience end.Memory s = Unit {0}
EndsAt patience end.Sink s = Unit {0}
EndsAt patience end.Done s = s.over ≡ true
EndsAt patience (end.Line number) s = s.over ≡ true
EndsAt patience end.Source s = s.over ≡ true
EndsAt patience (end.Mount why) s = StopsAt s (fault.Refused why)
EndsAt patience (end.Frame number wrong.Length) s = (number ≡ s.received + 1) × IsNoFrame s.held × (s.connected ≡ true)
EndsAt patience (end.Frame number (wrong.Protocol why)) s = (number ≡ s.received) × StopsAt s (fault.Protocol why)
EndsAt patience end.Frames s = s.received ≡ MAX_FRAMES
EndsAt patience end.Cuts s = (s.connected ≡ false) ⊎ (s.silences ≡ patience)
EndsAt patience (end.Connects number) s = ⊥

-- fewer frames came than end a run, but where it ended by that; of want of memory nothing is said
abbrev pub AreFew : End → ℕ → Type 0
AreFew end.Memory frames = Unit {0}
AreFew end.Frames frames = frames ≡ MAX_FRAMES
AreFew other frames = frames < MAX_FRAMES

-- the sink took the text; or it took a front of it, less than all, and refused the rest
abbrev pub PrintedSo : Result (Unit {0}) End → List ℕ → Held → Held → Type 0
PrintedSo (Err end.Sink) text out out' = TookFront text out out'
PrintedSo result text out out' = TookAll text out out'

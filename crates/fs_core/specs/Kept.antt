-- What the core keeps between two inputs, and its outputs that were not taken yet.
use Rattle.std.specs.Prelude.{ℕ, Bool, List, Option}
use Rattle.smb_base.specs.declared.names.Mid.{Mid}
use Rattle.share_state.specs.declared.request.Rep.{Rep}
use Rattle.smb_mux.specs.InFlight.{InFlight}
use Rattle.fs_client.specs.View.{Setting}
use Rattle.fs_core.specs.declared.flight.Flight.{Flight}
use Rattle.fs_core.specs.declared.slot.Slot.{Slot}
use Rattle.fs_core.specs.declared.phase.Phase.{Phase}
use Rattle.fs_core.specs.declared.output.Output.{Output}

pub record Kept : Type 0 where
  pub slots : List Slot
  pub flights : List Flight
  pub early : List (Mid × Rep)
  pub mux : InFlight
  pub phase : Phase
  pub last : Option ℕ
  pub now : ℕ
  pub ended : Bool

-- the core: what the run is given, what it keeps, and the outputs that were not taken yet
pub record CoreValue : Type 0 where
  pub setting : Setting
  pub kept : Kept
  pub outs : List Output

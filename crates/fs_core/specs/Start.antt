-- The core before its first input.
use Rattle.std.specs.Prelude.{ℕ, false, List, [], ◌∷◌, None}
use Rattle.fs_types.specs.declared.options.Options.{Options}
use Rattle.smb_mount.specs.Kept.{Start}
use Rattle.smb_mux.specs.InFlight.{start}
use Rattle.fs_client.specs.View.{Setting}
use Rattle.fs_core.specs.declared.output.Output.TheVariants as output
use Rattle.fs_core.specs.declared.phase.Phase.TheVariants as phase
use Rattle.fs_core.specs.Kept.{Kept, CoreValue}
use Rattle.fs_core.specs.Path.{share_path}

abbrev pub kept_at_start : Start → Kept
kept_at_start mount = record {
  slots = [];
  flights = [];
  early = [];
  mux = start;
  phase = phase.Apart mount;
  last = None;
  now = 0;
  ended = false;
}

abbrev pub setting_of : Options → List ℕ → List ℕ → List ℕ → Setting
setting_of options guid seed path = record { options = options; seed = seed; guid = guid; path = path }

-- a connection is wanted, and the mount of the share begins on it
abbrev pub at_start : Options → List ℕ → List ℕ → List ℕ → List ℕ → CoreValue
at_start options guid seed host share = record {
  setting = setting_of options guid seed (share_path host share);
  kept = kept_at_start (record { guid = guid; path = share_path host share; previous = 0 });
  outs = output.Reconnect ∷ [];
}

-- What is asked can be written, and is read again as it was written.
use Rattle.std.specs.Prelude.{ℕ, ◌^◌, ◌<◌, ◌≤◌, List, length, slice_index, Option, Some, None}
use Rattle.smb_base.specs.declared.names.Fid.{Fid}
use Rattle.smb_head.specs.declared.request.Request.{Request}
use Rattle.smb_mount.specs.Tokens.{negotiate_token, authenticate_token}
use Rattle.smb_mount.specs.Requests.{IsWritten, negotiate_fields, dialects, session_fields, tree_fields, unit_bytes}
use Rattle.fs_client.specs.Mount.{Stage, Unmounted, Agreed, Challenging, InSession, Mounted}
use Rattle.fs_core.specs.declared.phase.Phase.{Phase}
use Rattle.fs_core.specs.declared.phase.Phase.TheVariants as phase
use Rattle.fs_core.specs.declared.stat.Progress.{Progress}
use Rattle.fs_core.specs.declared.stat.Progress.TheVariants as progress

-- a path that a CREATE can name: so many units at most, each of 16 bits
pub record IsPath (path : List ℕ) : Type 0 where
  pub short : length path ≤ 32767
  pub units : (k : ℕ) → slice_index path k < 2 ^ 16

-- a file id whose halves have 64 bits
pub record IsWide (fid : Fid) : Type 0 where
  pub persistent : fid.persistent < 2 ^ 64
  pub volatile : fid.volatile < 2 ^ 64

-- what a stat asks next
abbrev pub IsWritable : List ℕ → Progress → Type 0
IsWritable path progress.Opening = IsPath path
IsWritable path (progress.Querying fid) = IsWide fid
IsWritable path (progress.Closing fid o) = IsWide fid
IsWritable path (progress.Said o) = Unit {0}

-- what the mount asks at a stage
abbrev pub IsWrittenAt : Stage → Request → Type 0
IsWrittenAt (Unmounted k) request = IsWritten 36 (negotiate_fields k.guid) dialects request
IsWrittenAt (Agreed k) request = IsWritten 25 (session_fields k.previous negotiate_token) negotiate_token request
IsWrittenAt (Challenging k) request = IsWritten 25 (session_fields k.previous authenticate_token) authenticate_token request
IsWrittenAt (InSession k) request = IsWritten 9 (tree_fields (unit_bytes k.path)) (unit_bytes k.path) request
IsWrittenAt (Mounted facts) request = Unit {0}

-- what it asks in a phase
abbrev pub IsWrittenIn : Phase → Request → Type 0
IsWrittenIn (phase.Greeting k) request = IsWrittenAt (Unmounted k) request
IsWrittenIn (phase.SettingUp k) request = IsWrittenAt (Agreed k) request
IsWrittenIn (phase.Answering k) request = IsWrittenAt (Challenging k) request
IsWrittenIn (phase.Joining k) request = IsWrittenAt (InSession k) request
IsWrittenIn other request = Unit {0}

-- what it asks, if anything
abbrev pub IfSomeWritten : Phase → Option Request → Type 0
IfSomeWritten phase None = Unit {0}
IfSomeWritten phase (Some request) = IsWrittenIn phase request

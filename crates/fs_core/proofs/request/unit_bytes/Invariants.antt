-- so far the units up to the index
use Rattle.std.proofs.Common.{◌≡◌, ◌*◌, take, length}
use Rattle.smb_mount.specs.Requests.{unit_bytes}
use Rattle.fs_core.proofs.request.unit_bytes.Given as goal

abbrev pub invariant-loop-unit : goal.invariant-loop-unit
invariant-loop-unit l = (l.bytes.items ≡ unit_bytes (take l.unit-index l.units)) × (length l.bytes.items ≡ 2 * l.unit-index)

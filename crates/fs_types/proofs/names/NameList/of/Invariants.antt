-- so far the names up to the index are copied
use Rattle.std.proofs.Common.{◌≡◌, take}
use Rattle.fs_types.proofs.names.NameList.of.Given as goal

abbrev pub invariant-loop-pair : goal.invariant-loop-pair
invariant-loop-pair l = l.held.items ≡ take l.pair-index l.names

-- no reply up to the index is one to the request
use Rattle.std.proofs.Common.{◌≡◌, drop}
use Rattle.fs_core.specs.Parts.{is_held}
use Rattle.fs_core.proofs.early.is_held.Given as goal

abbrev pub invariant-loop-held : goal.invariant-loop-held
invariant-loop-held l = is_held l.mid l.early ≡ is_held l.mid (drop l.held-index l.early)

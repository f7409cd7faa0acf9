-- no number up to the index is free
use Rattle.fs_handles.specs.Numbers.{AreHeld}
use Rattle.fs_handles.proofs.fds.free_from.Given as goal

abbrev pub invariant-loop-at : goal.invariant-loop-at
invariant-loop-at l = AreHeld l.numbers l.from l.at

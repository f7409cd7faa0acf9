-- so far frames were sent, or nothing was done; each call that stands at an index up to this one was looked at
use Rattle.std.proofs.Common.{◌≡◌, length}
use Rattle.fs_core.specs.Event.{Puts}
use Rattle.fs_core.proofs.Composed.{IsUntouched}
use Rattle.fs_core.proofs.machine.Core.send_all.Given as goal

abbrev pub invariant-loop-index : goal.invariant-loop-index
invariant-loop-index l =
    Puts 3 3 l.fn.self l.self × IsUntouched l.index l.fn.self l.self × (l.index-end ≡ length l.fn.self.kept.slots)

-- the replies up to the index have landed
use Rattle.std.proofs.Common.{◌≡◌, take}
use Rattle.fs_core.specs.Steps.{LandAll}
use Rattle.fs_core.proofs.machine.Core.land_all.Given as goal

abbrev pub invariant-loop-reply : goal.invariant-loop-reply
invariant-loop-reply l =
    LandAll l.fn.self.setting.options (take l.reply-index l.replies) l.fn.self.kept l.self.kept
    × (l.self.setting ≡ l.fn.self.setting) × (l.self.outs ≡ l.fn.self.outs)

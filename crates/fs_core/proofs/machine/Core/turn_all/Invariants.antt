-- those that are left to turn
use Rattle.std.proofs.Common.{◌≡◌, ◌-◌}
use Rattle.fs_core.specs.Steps.{turned}
use Rattle.fs_core.proofs.machine.Core.turn_all.Given as goal

abbrev pub invariant-loop : goal.invariant-loop
invariant-loop l =
    (turned l.fn.self.setting.options l.most l.fn.self.kept ≡ turned l.fn.self.setting.options (l.most - l.counter) l.self.kept)
    × (l.self.setting ≡ l.fn.self.setting) × (l.self.outs ≡ l.fn.self.outs)

use Rattle.std.proofs.Common.{rules, ◌≡◌, ◌∙◌}
use Rattle.fs_core.proofs.MarkingGoing.{last_lives}
use Rattle.fs_core.proofs.Putting.{puts_nothing}
use Rattle.fs_core.proofs.machine.Core.leave_last.Goals as goal

pub returns-in_default : goal.returns-in_default
returns-in_default c =
    let now : c.self-inside.inside.0.1.1.1.1.1.0.phase ≡ c.args.self.now.kept.phase = search rules in
    record {
      puts = puts_nothing 4 4 c.args.self.now;
      lives = last_lives c.args.self.now.kept c.requires.still c.requires.no_flight c.requires.asks
          (λ facts is. c.in_default.not-LeavingSession facts (now ∙ is));
      err = record {};
    }

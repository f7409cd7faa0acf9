use Rattle.std.proofs.Common.{rules, ◌≡◌, ◌∙◌, subst, true}
use Rattle.std.specs.Prelude.{is_some}
use Rattle.fs_client.specs.View.{Setting}
use Rattle.fs_core.specs.Steps.{next_turn, turned_with}
use Rattle.fs_core.proofs.LandingLoop.{turned_left}
use Rattle.fs_core.proofs.machine.Core.turn_all.Goals as goal

pub loop-preserved : goal.loop-preserved
loop-preserved c =
    let some : is_some (next_turn c.loop.self.kept.flights c.loop.self.kept.early) ≡ true = search rules in (
      c.loop.invariant.0
          ∙ turned_left c.args.self.now.setting.options c.args.most c.loop.counter c.loop.self.kept c.turn.new.self.kept c.loop-test.true some
          (subst (λ (s : Setting). c.turn.new.self.kept ≡ turned_with s.options (next_turn c.loop.self.kept.flights c.loop.self.kept.early) (λ k. k) c.loop.self.kept)
          c.loop.invariant.1 c.turn.ensures.kept),
      c.turn.ensures.setting ∙ c.loop.invariant.1,
      c.turn.ensures.outs ∙ c.loop.invariant.2,
    )

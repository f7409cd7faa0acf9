use Rattle.std.proofs.Common.{◌≡◌, ◌==◌, ℕ, not, ap, ◌∙◌, rules}
use Rattle.std.specs.Prelude.{filter}
use Rattle.std.proofs.lemmas.Fn.{filter_same}
use Rattle.fs_top.specs.Turns.{calls_but}
use Rattle.fs_top.proofs.running.Running.end.Goals as goal

pub returns : goal.returns
returns c =
    let kept : c.retain.new.self.items ≡ filter (λ (n : ℕ). not (n == c.args.number)) c.self.inside.held.items =
    filter_same _ _ _ (λ x b f' k. search rules) _ _ c.retain.ensures.filtered in
    kept ∙ ap (calls_but c.args.number) c.self.view_is

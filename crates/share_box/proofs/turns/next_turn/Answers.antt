use Rattle.std.proofs.Common.{sym, ap, ◌∙◌}
use Rattle.share_box.specs.declared.state.State.{State}
use Rattle.share_box.proofs.Passing.{next_possible}
use Rattle.share_box.proofs.turns.next_turn.Goals as goal

pub returns-in-Some-clause-possible : goal.returns-in-Some-clause-possible
returns-in-Some-clause-possible c = next_possible c.args.b.now.share c.args.b.now.turns c.in-Some.turn _ (sym (ap (λ (b : State). b.turns) c.in_ok-pass_over.ensures.ok) ∙ c.in-Some.ensures)

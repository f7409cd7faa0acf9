use Rattle.std.proofs.Common.{rules, refl, [], false, ◌∙◌}
use Rattle.std.proofs.lemmas.Result.{err_from_is_err_and}
use Rattle.share_box.proofs.Going.{goes_further}
use Rattle.share_box.proofs.Telling.{same_goes, goes_after, stops_after}
use Rattle.share_box.proofs.turns.turns_at_connect.Goals as goal

pub loop-b-preserved : goal.loop-b-preserved
loop-b-preserved c = record {
  reaches = c.in_ok-turn_at_connect-in-Turn.ensures.ok ∙ c.loop-b.invariant.reaches;
  rest = search rules;
  goes = goes_further [] false false _ _ _ c.loop-b.invariant.goes c.turn_at_connect.ensures.goes;
  keeps = goes_after _ _ _ c.loop-b.invariant.keeps c.in_ok-turn_at_connect-in-Turn.ensures.keeps;
}

pub returns-in_err-turn_at_connect-in-Turn-clause-keeps : goal.returns-in_err-turn_at_connect-in-Turn-clause-keeps
returns-in_err-turn_at_connect-in-Turn-clause-keeps c =
    let p = err_from_is_err_and c.from_residual.result c.from_residual.ensures.1 in
    rw p.1 (stops_after _ _ _ c.loop-b.invariant.keeps c.in_err-turn_at_connect-in-Turn.ensures.keeps)

pub returns-in-Refusal-clause-keeps : goal.returns-in-Refusal-clause-keeps
returns-in-Refusal-clause-keeps c = goes_after _ _ _ c.loop-b.invariant.keeps (same_goes _ _ refl refl refl refl refl)

pub returns-in-Rest-clause-keeps : goal.returns-in-Rest-clause-keeps
returns-in-Rest-clause-keeps c = c.loop-b.invariant.keeps

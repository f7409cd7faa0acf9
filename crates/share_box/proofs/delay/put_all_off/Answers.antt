use Rattle.std.proofs.Common.{◌≡◌, ◌∙◌, ◌+◌, [], false, drop, add-one}
use Rattle.share_box.specs.Turns.{all_delayed}
use Rattle.share_box.proofs.Going.{goes_further}
use Rattle.share_box.proofs.Ordering.{one_more_delayed}
use Rattle.share_box.proofs.Telling.{goes_after}
use Rattle.share_box.proofs.delay.put_all_off.Goals as goal

pub returns-in_err-put_off-clause-goes : goal.returns-in_err-put_off-clause-goes
returns-in_err-put_off-clause-goes c = goes_further [] false false _ _ _ c.loop-mid.invariant.goes c.put_off.ensures.goes

pub loop-mid-preserved : goal.loop-mid-preserved
loop-mid-preserved c = record {
  reaches = let step : all_delayed (drop (c.loop-mid.mid-index + 1) c.args.mids.now) c.put_off.new.b ≡ all_delayed (drop c.loop-mid.mid-index c.args.mids.now) c.loop-mid.b =
      rw add-one (one_more_delayed c.args.mids.now c.loop-mid.mid-index c.loop-mid.b c.put_off.new.b c.loop-mid-test.true c.in_ok-put_off.ensures.ok) in
      step ∙ c.loop-mid.invariant.reaches;
  goes = goes_further [] false false _ _ _ c.loop-mid.invariant.goes c.put_off.ensures.goes;
  keeps = goes_after _ _ _ c.loop-mid.invariant.keeps c.in_ok-put_off.ensures.keeps;
}

-- with the requests from the index on the same comes out; the box goes on in step with its story
use Rattle.std.proofs.Common.{◌≡◌, drop}
use Rattle.share_box.specs.Calls.{GoesOn}
use Rattle.share_box.specs.Truth.{GoesInStep}
use Rattle.share_box.specs.Turns.{all_delayed}
use Rattle.share_box.proofs.delay.put_all_off.Given as goal

abbrev pub invariant-loop-mid : goal.invariant-loop-mid
invariant-loop-mid l = record {
  reaches : all_delayed (drop l.mid-index l.mids) l.b ≡ all_delayed l.mids l.fn.b;
  goes : GoesOn l.fn.b l.b;
  keeps : GoesInStep l.fn.b l.b;
}

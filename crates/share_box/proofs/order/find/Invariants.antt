-- no request up to the index has the id
use Rattle.std.proofs.Common.{◌≡◌, drop}
use Rattle.share_state.specs.Sent.{sent_with}
use Rattle.share_box.proofs.order.find.Given as goal

abbrev pub invariant-loop-one : goal.invariant-loop-one
invariant-loop-one l = sent_with l.mid l.sent ≡ sent_with l.mid (drop l.one-index l.sent)

-- no message up to the index has the id
use Rattle.std.proofs.Common.{◌≡◌, drop}
use Rattle.share_state.specs.Sent.{sent_with}
use Rattle.share_state.proofs.connection.place_of.Given as goal

abbrev pub invariant-loop-at : goal.invariant-loop-at
invariant-loop-at l = sent_with l.mid l.sent ≡ sent_with l.mid (drop l.at l.sent)

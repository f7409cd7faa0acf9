use Rattle.std.proofs.Common.{sym}
use Rattle.share_state.specs.Sent.{sent_with}
use Rattle.share_box.proofs.Paying.{interim_pays}
use Rattle.share_box.proofs.delay.interim_to.Goals as goal

pub returns-in_ok-interim-in-Some-clause-pays : goal.returns-in_ok-interim-in-Some-clause-pays
returns-in_ok-interim-in-Some-clause-pays c =
    interim_pays (sent_with c.args.mid c.args.sent.now) c.in-Some.one.now _ (sym c.in-Some.ensures) (rw c.as_slice.ensures at c.in_ok-interim-in-Some.ensures.exact)
    (rw c.as_slice.ensures at c.in_ok-interim-in-Some.ensures.again)

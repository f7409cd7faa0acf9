use Rattle.std.proofs.Common.{◌≡◌, ◌∙◌, sym, Some}
use Rattle.share_state.specs.Sent.{sent_with}
use Rattle.share_box.specs.Turns.{interim_to}
use Rattle.share_box.proofs.Going.{delay_goes}
use Rattle.share_box.proofs.Telling.{delay_keeps}
use Rattle.share_box.proofs.delay.put_off.Goals as goal

pub returns-in-Some-clause-goes : goal.returns-in-Some-clause-goes
returns-in-Some-clause-goes c = delay_goes c.tell.result c.args.b.now c.tell.new.b c.args.mid _ c.tell.ensures.ok c.tell.ensures.err

pub returns-in-Some-clause-keeps : goal.returns-in-Some-clause-keeps
returns-in-Some-clause-keeps c =
    let planned : interim_to (sent_with c.args.mid c.args.b.now.share.sent) ≡ Some c.in-Some.frame =
    sym (rw c.as_slice.ensures at c.in_ok-frame.ensures.exact) ∙ c.in-Some.is in
    delay_keeps c.tell.result c.args.b.now c.tell.new.b c.args.mid c.in-Some.frame planned (rw c.as_slice.ensures at c.in_ok-frame.ensures.pays)
    (rw c.as_slice-in-Some.ensures at c.tell.ensures.ok) c.tell.ensures.err

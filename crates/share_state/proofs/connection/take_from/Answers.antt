use Rattle.std.proofs.Common.{◌≡◌, ◌∙◌, ◌<◌, length, Some, refl}
use Rattle.std.specs.Prelude.{slice_get}
use Rattle.std.proofs.lemmas.Option.{slice_get-get_or}
use Rattle.share_state.proofs.SentLaws.{found_mid, left_others}
use Rattle.share_state.specs.Sent.{sent_with}
use Rattle.share_state.proofs.connection.take_from.Goals as goal

pub returns-in-Some-clause-others : goal.returns-in-Some-clause-others
returns-in-Some-clause-others c =
    let sent = c.args.sent.now.items in
    let inside : c.in-Some.at < length sent = rw c.deref.ensures.value at c.in-Some.ensures.0 in
    let found : sent_with c.args.mid sent ≡ slice_get sent c.in-Some.at = rw c.deref.ensures.value at c.in-Some.ensures.1 in
    let one : sent_with c.args.mid sent ≡ Some c.remove.result =
    found ∙ slice_get-get_or sent c.in-Some.at c.remove.result inside ∙ rw (← c.remove.ensures.value) refl in
    rw c.remove.ensures.items (left_others c.args.mid sent c.in-Some.at c.remove.result inside c.remove.ensures.value (found_mid c.args.mid sent c.remove.result one))

use Rattle.std.proofs.Common.{◌≡◌, ◌∙◌, sym, Some}
use Rattle.share_state.specs.Sent.{sent_with}
use Rattle.share_box.proofs.Ordering.{serves_found}
use Rattle.share_box.proofs.Telling.{serve_keeps}
use Rattle.share_box.proofs.turns.serve_id.Goals as goal

pub returns-in-Some-clause-ok : goal.returns-in-Some-clause-ok
returns-in-Some-clause-ok c =
    let found : sent_with c.args.mid c.args.b.now.share.sent ≡ Some c.in-Some.one = sym c.take.ensures.first ∙ c.in-Some.is in
    serves_found c.serve.result c.args.b.now c.serve.new.b c.args.mid c.in-Some.one c.take.new.self found c.take.ensures.others c.serve.ensures.ok

pub returns-in-Some-clause-keeps : goal.returns-in-Some-clause-keeps
returns-in-Some-clause-keeps c =
    let found : sent_with c.args.mid c.args.b.now.share.sent ≡ Some c.in-Some.one = sym c.take.ensures.first ∙ c.in-Some.is in
    serve_keeps c.serve.result c.args.b.now c.serve.new.b c.args.mid c.in-Some.one c.take.new.self found c.requires c.take.ensures.others c.serve.ensures.ok
    c.serve.ensures.pays c.serve.ensures.told

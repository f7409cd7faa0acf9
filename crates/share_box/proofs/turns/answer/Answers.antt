use Rattle.std.proofs.Common.{◌≡◌, sym, ap, ◌∙◌, Some}
use Rattle.share_box.specs.Serving.{plan_of, done_by}
use Rattle.share_box.proofs.Paying.{pays_as, ok_any}
use Rattle.share_box.proofs.turns.answer.Goals as goal

pub returns-in_ok-frame-in-Some-clause-pays : goal.returns-in_ok-frame-in-Some-clause-pays
returns-in_ok-frame-in-Some-clause-pays c =
    let planned : plan_of c.args.one.now ≡ Some c.in-Some.plan = sym c.in_ok-plan.ensures.exact ∙ c.in-Some.is in
    let done : (done_by c.in-Some.plan c.args.one.now c.args.b.now.share).0 ≡ c.in_ok-said-in-Some.said = ap (λ d. d.0) c.in_ok-said-in-Some.ensures.ok in
    ok_any c.add.result (pays_as c.args.one.now c.args.b.now c.in-Some.plan c.in_ok-said-in-Some.said _ planned done
    (rw c.as_slice.ensures at c.in_ok-frame-in-Some.ensures.exact) (rw c.as_slice.ensures at c.in_ok-frame-in-Some.ensures.again))

use Rattle.std.proofs.Common.{arith, ◌≡◌, ◌∙◌, ◌+◌, ◌∷◌, ℕ, length, drop, take, ap, sym, subst, refl, length-append}
use Rattle.std.proofs.lemmas.List.{drop_more}
use Rattle.smb_head.specs.declared.request.Request.{Request}
use Rattle.smb_credit.specs.Window.{cost, after_use, numbers}
use Rattle.smb_credit.proofs.WindowLaws.{length-numbers}
use Rattle.smb_mux.specs.Sending.{costs}
use Rattle.smb_mux.specs.InFlight.{AreBelow}
use Rattle.smb_mux.proofs.SendLaws.{ids_after-more}
use Rattle.smb_mux.proofs.FlightLaws.{flown, flown_below, flown_long, first_ones}
use Rattle.smb_mux.proofs.mux.add_flights.Goals as goal

pub returns-in-Err-clause-err : goal.returns-in-Err-clause-err
returns-in-Err-clause-err c =
    let old = c.args.flights.now.entries in
    c.cut.ensures
    ∙ ap (take c.len-before.result) c.in-Err.ensures.err
    ∙ ap (λ (n : ℕ). take n c.loop-request.flights.entries) c.len-before.ensures.len
    ∙ first_ones old c.loop-request.flights.entries _ _ c.loop-request.invariant.all c.loop-request.invariant.front

pub loop-request-preserved : goal.loop-request-preserved
loop-request-preserved c =
    let r = c.request-item.result in
    let rs = c.args.requests.now in
    let rest = drop (c.loop-request.request-index + 1) rs in
    let es = c.loop-request.flights.entries in
    let mid = c.in-Some.mid.0 in
    let front : drop c.loop-request.request-index rs ≡ r ∷ rest =
    drop_more rs c.loop-request.request-index r (omega arith) ∙ ap (λ (x : Request). x ∷ rest) (sym c.request-item.is) in
    let now : c.take.new.self ≡ after_use (cost r.charge) c.loop-request.ids = c.in-Some.ensures.some.2 ∙ ap (λ (n : ℕ). after_use n c.loop-request.ids) c.cost.ensures in
    let at : mid ≡ length c.loop-request.ids.used = c.in-Some.ensures.follow.2 in
    let under : AreBelow mid es = subst (λ (n : ℕ). AreBelow n es) (sym at) c.loop-request.invariant.below in
    let more : length c.take.new.self.used ≡ length c.loop-request.ids.used + c.cost.result =
    ap length c.in-Some.ensures.follow.0 ∙ length-append c.loop-request.ids.used (numbers mid c.cost.result) ∙ ap (λ (n : ℕ). length c.loop-request.ids.used + n) (length-numbers mid c.cost.result) in
    record {
      all = flown c.loop-request.ids c.take.new.self mid r.command (drop c.loop-request.request-index rs) rest r es c.insert.new.self.entries _ front
          c.in-Some.ensures.some.1 refl now under c.loop-request.invariant.all c.in-Ok.ensures.entries;
      ids = ids_after-more c.loop-request.ids c.take.new.self _ (drop c.loop-request.request-index rs) rest r front now c.loop-request.invariant.ids;
      enough = omega (arith, ap costs front, c.loop-request.invariant.enough, c.in-Some.ensures.left, c.cost.ensures);
      below = flown_below mid r.command (length c.loop-request.ids.used) (length c.take.new.self.used) es c.insert.new.self.entries at (omega (arith, more, c.cost.ensures)) c.loop-request.invariant.below c.in-Ok.ensures.entries;
      front = omega (arith, flown_long mid r.command es c.insert.new.self.entries under c.in-Ok.ensures.entries, c.loop-request.invariant.front);
    }

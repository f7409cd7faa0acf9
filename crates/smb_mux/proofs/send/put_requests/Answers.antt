use Rattle.std.proofs.Common.{arith, ◌≡◌, ◌∙◌, ◌+◌, ◌∷◌, ◌++◌, List, ℕ, drop, ap, sym}
use Rattle.std.proofs.lemmas.List.{drop_more, at_drop_all, append-nil}
use Rattle.smb_head.specs.declared.request.Request.{Request}
use Rattle.smb_chain.specs.Chain.{chain}
use Rattle.smb_chain.proofs.ChainLaws.{chain-nil}
use Rattle.smb_credit.specs.Window.{after_use}
use Rattle.smb_mux.specs.Sending.{placed, costs, room_of}
use Rattle.smb_mux.proofs.SendLaws.{room-step, written-more}
use Rattle.smb_mux.proofs.send.put_requests.Goals as goal

pub loop-i-preserved : goal.loop-i-preserved
loop-i-preserved c =
    let r = c.index-requests-i.result in
    let rs = c.args.requests.now in
    let rest = drop (c.loop-i.i + 1) rs in
    let front : drop c.loop-i.i rs ≡ r ∷ rest =
    drop_more rs c.loop-i.i r (omega arith) ∙ ap (λ (x : Request). x ∷ rest) (sym c.index-requests-i.is) in
    record {
      written = written-more c.loop-i.ids c.take.new.self c.in-Some.mid.0 rs c.loop-i.i r c.loop-i.out.items c.put_request.new.out.items _ (omega arith) front
          c.in-Some.ensures.some.1 (c.in-Some.ensures.some.2 ∙ ap (λ (n : ℕ). after_use n c.loop-i.ids) c.cost.ensures) c.loop-i.invariant.written c.in_ok-put_request-in-Some.ensures;
      room = omega (arith, room-step r rest, ap room_of front, c.loop-i.invariant.room);
      enough = omega (arith, ap costs front, c.loop-i.invariant.enough, c.in-Some.ensures.left, c.cost.ensures);
    }

pub returns : goal.returns
returns c =
    sym (append-nil c.loop-i.out.items)
    ∙ ap (λ (l : List ℕ). c.loop-i.out.items ++ l) (sym chain-nil ∙ sym (at_drop_all (λ (l : List Request). chain (placed c.loop-i.ids l)) c.args.requests.now c.loop-i.i (omega arith)))
    ∙ c.loop-i.invariant.written

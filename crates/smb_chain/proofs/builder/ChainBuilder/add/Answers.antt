use Rattle.std.proofs.Common.{arith, ◌≡◌, ◌∙◌, ◌+◌, List, ℕ, length, ap, sym, subst, All}
use Rattle.smb_head.specs.Header.{IsRouted}
use Rattle.smb_head.proofs.HeadLaws.{head_of-header}
use Rattle.smb_chain.specs.declared.builder.Message.{Message}
use Rattle.smb_chain.specs.Chain.{chain, linked, padded, message}
use Rattle.smb_chain.proofs.ChainLaws.{length-chain-more, fits-linked, routed-more}
use Rattle.smb_chain.proofs.builder.ChainBuilder.add.Goals as goal

pub returns-in_err-body-clause-read_again : goal.returns-in_err-body-clause-read_again
returns-in_err-body-clause-read_again c = λ n rest small. head_of-header (linked c.args.head.now n) rest (fits-linked c.args.head.now n small c.fits.ensures) c.requires.routed

pub returns-in_err-push-clause-read_again : goal.returns-in_err-push-clause-read_again
returns-in_err-push-clause-read_again c = λ n rest small. head_of-header (linked c.args.head.now n) rest (fits-linked c.args.head.now n small c.fits.ensures) c.requires.routed

pub returns-clause-read_again : goal.returns-clause-read_again
returns-clause-read_again c = λ n rest small. head_of-header (linked c.args.head.now n) rest (fits-linked c.args.head.now n small c.fits.ensures) c.requires.routed

pub returns-clause-len : goal.returns-clause-len
returns-clause-len c =
    ap (λ (l : List Message). length (chain l)) c.in_ok-push.ensures.items
    ∙ length-chain-more c.self.inside.messages.items (message c.args.head.now c.in_ok-body.body)
    ∙ ap (λ (l : List Message). padded (length (chain l)) + (64 + length c.in_ok-body.body)) c.self.view_is
    ∙ ap (λ (l : List ℕ). padded (length (chain c.args.self.now)) + (64 + length l)) c.in_ok-body.ensures

pub invariant_of-self-2 : goal.invariant_of-self-2
invariant_of-self-2 c =
    let e : length (chain c.push.new.self.items) ≡ padded (length (chain c.self.inside.messages.items)) + (64 + length c.in_ok-body.body) =
    ap (λ (l : List Message). length (chain l)) c.in_ok-push.ensures.items
    ∙ length-chain-more c.self.inside.messages.items (message c.args.head.now c.in_ok-body.body) in
    let b = ap length c.in_ok-body.ensures in
    let p = ap padded c.self.invariant.0 in
    let v = ap (λ (l : List Message). padded (length (chain l))) c.self.view_is in (
      omega (arith, e, b, p, c.padded_len.ensures),
      omega (arith, e, b, p, v, c.padded_len.ensures, c.requires.room),
      subst (All (λ (m : Message). IsRouted m.head)) (sym c.in_ok-push.ensures.items) (routed-more c.self.inside.messages.items (message c.args.head.now c.in_ok-body.body) c.self.invariant.2 c.requires.routed),
    )

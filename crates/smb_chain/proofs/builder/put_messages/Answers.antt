use Rattle.std.proofs.Common.{arith, ◌≡◌, ◌∙◌, ◌+◌, ◌∷◌, ◌++◌, List, ℕ, length, drop, ap, sym}
use Rattle.std.proofs.lemmas.List.{drop_more, at_drop_all, append-nil}
use Rattle.smb_chain.specs.declared.builder.Message.{Message}
use Rattle.smb_chain.specs.Chain.{chain}
use Rattle.smb_chain.proofs.ChainLaws.{chain-nil, length-part_for, size-le-chain, written-more}
use Rattle.smb_chain.proofs.builder.put_messages.Goals as goal

pub put_part-requires-clause-small : goal.put_part-requires-clause-small
put_part-requires-clause-small c =
    let m = c.index-messages-i.result in
    let rest = drop (c.loop-i.i + 1) c.args.messages.now in
    let front : drop c.loop-i.i c.args.messages.now ≡ m ∷ rest =
    drop_more c.args.messages.now c.loop-i.i m (omega arith) ∙ ap (λ (x : Message). x ∷ rest) (sym c.index-messages-i.is) in
    omega (arith, size-le-chain m rest, ap (λ (l : List Message). length (chain l)) front, c.loop-i.invariant.small)

pub loop-i-preserved : goal.loop-i-preserved
loop-i-preserved c =
    let m = c.index-messages-i.result in
    let rest = drop (c.loop-i.i + 1) c.args.messages.now in
    let front : drop c.loop-i.i c.args.messages.now ≡ m ∷ rest =
    drop_more c.args.messages.now c.loop-i.i m (omega arith) ∙ ap (λ (x : Message). x ∷ rest) (sym c.index-messages-i.is) in
    record {
      written = written-more c.args.messages.now c.loop-i.i m c.loop-i.out.items c.put_part.new.out.items _ (omega arith) front c.loop-i.invariant.written c.in_ok-put_part.ensures;
      small = omega (arith, length-part_for m rest, ap (λ (l : List Message). length (chain l)) front, c.loop-i.invariant.small);
    }

pub returns : goal.returns
returns c =
    sym (append-nil c.loop-i.out.items)
    ∙ ap (λ (l : List ℕ). c.loop-i.out.items ++ l) (sym chain-nil ∙ sym (at_drop_all chain c.args.messages.now c.loop-i.i (omega arith)))
    ∙ c.loop-i.invariant.written

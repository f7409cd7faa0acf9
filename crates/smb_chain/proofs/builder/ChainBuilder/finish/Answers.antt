use Rattle.std.proofs.Common.{rules, arith, ◌≡◌, ◌∙◌, ◌≤◌, List, ℕ, length, drop, ap}
use Rattle.smb_head.specs.declared.first.TheConstants.{MAX_FRAME}
use Rattle.smb_chain.specs.declared.builder.Message.{Message}
use Rattle.smb_head.specs.Stream.{frame}
use Rattle.smb_chain.specs.Chain.{chain}
use Rattle.smb_chain.specs.Parts.{parts_of}
use Rattle.smb_chain.proofs.ChainLaws.{parts_of-chain}
use Rattle.smb_chain.proofs.builder.ChainBuilder.finish.Goals as goal

pub returns-clause-split_again : goal.returns-clause-split_again
returns-clause-split_again c = λ some.
    let whole : c.of_vec.result ≡ frame (chain c.args.self) = search rules in
    let small : length (chain c.args.self) ≤ MAX_FRAME =
    omega (arith, c.self.invariant.0, c.self.invariant.1, ap (λ (l : List Message). length (chain l)) c.self.view_is) in
    ap (λ (b : List ℕ). parts_of (drop 4 b)) whole ∙ parts_of-chain c.args.self (omega arith) some

use Rattle.std.proofs.Common.{arith, ◌∙◌, ◌≡◌, ◌++◌, List, ℕ, take, replicate, ap, append_assoc}
use Rattle.std.proofs.lemmas.List.{take-replicate}
use Rattle.smb_head.specs.Header.{header}
use Rattle.smb_chain.specs.Chain.{linked}
use Rattle.smb_chain.proofs.builder.put_with.Goals as goal

pub returns : goal.returns
returns c =
    let zeros : take c.args.zeros (replicate 8 0) ≡ replicate c.args.zeros 0 = take-replicate c.args.zeros 8 0 (omega arith) in
    let head = header (linked c.args.message.now.head c.args.next) in
    c.in_ok-extend_from_slice-2.ensures.items
    ∙ ap (λ (l : List ℕ). c.extend_from_slice.new.self.items ++ l) zeros
    ∙ ap (λ (l : List ℕ). l ++ replicate c.args.zeros 0) (c.in_ok-extend_from_slice.ensures.items
    ∙ ap (λ (l : List ℕ). c.write_head.new.out.items ++ l) c.as_slice.ensures
    ∙ ap (λ (l : List ℕ). l ++ c.args.message.now.body) c.in_ok-write_head.ensures.ok)
    ∙ append_assoc (c.args.out.now.items ++ head) c.args.message.now.body (replicate c.args.zeros 0)
    ∙ append_assoc c.args.out.now.items head (c.args.message.now.body ++ replicate c.args.zeros 0)

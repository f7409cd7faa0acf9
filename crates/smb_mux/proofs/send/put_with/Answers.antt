use Rattle.std.proofs.Common.{arith, ◌∙◌, ◌≡◌, ◌++◌, List, ℕ, take, replicate, ap, append_assoc}
use Rattle.std.proofs.lemmas.List.{take-replicate}
use Rattle.smb_head.specs.Header.{header}
use Rattle.smb_chain.specs.Chain.{linked}
use Rattle.smb_head.specs.declared.head.Head.{Head}
use Rattle.smb_mux.specs.Sending.{head_for}
use Rattle.smb_mux.proofs.send.put_with.Goals as goal

pub returns : goal.returns
returns c =
    let zeros : take c.args.zeros (replicate 8 0) ≡ replicate c.args.zeros 0 = take-replicate c.args.zeros 8 0 (omega arith) in
    let head = header (linked (head_for c.args.mid.0 c.args.request.now) c.args.next) in
    c.in_ok-extend_from_slice-2.ensures.items
    ∙ ap (λ (l : List ℕ). c.extend_from_slice.new.self.items ++ l) zeros
    ∙ ap (λ (l : List ℕ). l ++ replicate c.args.zeros 0) (c.in_ok-extend_from_slice.ensures.items
    ∙ ap (λ (l : List ℕ). c.write_head.new.out.items ++ l) c.as_slice.ensures
    ∙ ap (λ (l : List ℕ). l ++ c.args.request.now.body) (c.in_ok-write_head.ensures.ok ∙ ap (λ (h : Head). c.args.out.now.items ++ header h) c.head_of-head.ensures.value))
    ∙ append_assoc (c.args.out.now.items ++ head) c.args.request.now.body (replicate c.args.zeros 0)
    ∙ append_assoc c.args.out.now.items head (c.args.request.now.body ++ replicate c.args.zeros 0)

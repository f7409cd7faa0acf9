use Rattle.std.proofs.Common.{rules, ◌≡◌, ◌∙◌, ◌++◌, List, ℕ, sym, ap}
use Rattle.smb_head.specs.Stream.{prefix}
use Rattle.smb_chain.specs.Chain.{chain}
use Rattle.smb_mux.specs.Sending.{placed}
use Rattle.smb_mux.proofs.SendLaws.{length-frame}
use Rattle.smb_mux.proofs.send.framed.Goals as goal

pub returns : goal.returns
returns c =
    let all = chain (placed c.args.window.now c.args.requests.now) in
    let front : c.extend_from_slice.new.self.items ≡ prefix c.args.len = search rules in
    let written : c.of_vec.result ≡ c.extend_from_slice.new.self.items ++ all = search rules in
    written
    ∙ ap (λ (l : List ℕ). l ++ all) front
    ∙ ap (λ (n : ℕ). prefix n ++ all) (c.requires.room.0 ∙ sym (length-frame c.args.window.now c.args.requests.now))

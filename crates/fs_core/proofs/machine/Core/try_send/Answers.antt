use Rattle.std.proofs.Common.{rules, ◌≡◌, ◌∙◌, ◌≤◌, ap, subst, append_assoc, ℕ, List, [], ◌∷◌, ◌++◌, length}
use Rattle.smb_head.specs.declared.request.Request.{Request}
use Rattle.smb_head.specs.Stream as stream
use Rattle.smb_chain.specs.Chain.{chain}
use Rattle.smb_credit.specs.Window.{usable}
use Rattle.smb_mux.specs.InFlight.{InFlight}
use Rattle.smb_mux.specs.Sending.{costs, placed}
use Rattle.smb_link.specs.declared.mark.Mark.TheVariants as mark
use Rattle.fs_core.specs.declared.output.Output.{Output}
use Rattle.fs_core.specs.declared.output.Output.TheVariants as output
use Rattle.fs_core.proofs.machine.Core.try_send.Goals as goal

pub returns-in_ok-fly-in-Ok-clause-tries : goal.returns-in_ok-fly-in-Ok-clause-tries
returns-in_ok-fly-in-Ok-clause-tries c =
    let now : c.self-inside.inside.0.1.1.1.1.1.0.mux ≡ c.args.self.now.kept.mux = search rules in
    let marked : c.put.new.self.outs ≡ c.args.self.now.outs ++ output.Marked (mark.For c.args.number c.in-Ok.ticket.first c.in-Ok.ticket.count) ∷ [] = search rules in
    let sent : c.fly.new.self.outs ≡ c.put.new.self.outs ++ output.Send c.in-Ok.ticket.frame ∷ [] = search rules in
    let count : c.in-Ok.ticket.count ≡ length c.args.requests.now = c.in-Ok.ensures.count ∙ ap length c.as_slice.ensures in
    record {
      first = c.in-Ok.ticket.first;
      frame = c.in-Ok.ticket.frame;
      id = search rules;
      spelled = subst (λ (m : InFlight). c.in-Ok.ticket.frame ≡ stream.frame (chain (placed m.ids c.args.requests.now))) now
          (subst (λ (l : List Request). c.in-Ok.ticket.frame ≡ stream.frame (chain (placed c.self-inside.inside.0.1.1.1.1.1.0.mux.ids l))) c.as_slice.ensures c.in-Ok.ensures.frame);
      enough = subst (λ (m : InFlight). costs c.args.requests.now ≤ length (usable m.ids)) now
          (subst (λ (l : List Request). costs l ≤ length (usable c.self-inside.inside.0.1.1.1.1.1.0.mux.ids)) c.as_slice.ensures c.in-Ok.ensures.starved);
      setting = search rules;
      outs = sent
          ∙ ap (λ (l : List Output). l ++ output.Send c.in-Ok.ticket.frame ∷ []) marked
          ∙ append_assoc c.args.self.now.outs (output.Marked (mark.For c.args.number c.in-Ok.ticket.first c.in-Ok.ticket.count) ∷ []) (output.Send c.in-Ok.ticket.frame ∷ [])
          ∙ ap (λ (n : ℕ). c.args.self.now.outs ++ output.Marked (mark.For c.args.number c.in-Ok.ticket.first n) ∷ output.Send c.in-Ok.ticket.frame ∷ []) count;
      kept = search rules;
    }

use Rattle.std.proofs.Common.{rules, ◌≡◌, ◌∙◌, ◌≤◌, subst, List, [], ◌∷◌, length}
use Rattle.std.proofs.lemmas.Result.{on_ok_weaker}
use Rattle.smb_head.specs.declared.request.Request.{Request}
use Rattle.smb_head.specs.Stream as stream
use Rattle.smb_chain.specs.Chain.{chain}
use Rattle.smb_credit.specs.Window.{usable}
use Rattle.smb_mux.specs.Sending.{costs, placed}
use Rattle.smb_mux.specs.InFlight.{InFlight}
use Rattle.fs_core.proofs.machine.Core.send_aside.Goals as goal

pub returns-in-Ok-clause-sends : goal.returns-in-Ok-clause-sends
returns-in-Ok-clause-sends c =
    let are : c.as_slice.result.now ≡ c.args.request ∷ [] = c.as_slice.ensures ∙ search rules in
    let now : c.self-inside.inside.0.1.1.1.1.1.0.mux ≡ c.args.self.now.kept.mux = search rules in
    on_ok_weaker c.fly_aside.result (λ flown. record {
      first = c.in-Ok.ticket.first;
      frame = c.in-Ok.ticket.frame;
      id = search rules;
      spelled = subst (λ (m : InFlight). c.in-Ok.ticket.frame ≡ stream.frame (chain (placed m.ids (c.args.request ∷ [])))) now
          (subst (λ (l : List Request). c.in-Ok.ticket.frame ≡ stream.frame (chain (placed c.self-inside.inside.0.1.1.1.1.1.0.mux.ids l))) are c.in-Ok.ensures.frame);
      enough = subst (λ (m : InFlight). costs (c.args.request ∷ []) ≤ length (usable m.ids)) now
          (subst (λ (l : List Request). costs l ≤ length (usable c.self-inside.inside.0.1.1.1.1.1.0.mux.ids)) are c.in-Ok.ensures.starved);
      setting = search rules;
      outs = search rules;
      kept = search rules;
    }) c.fly_aside.ensures.ok

use Rattle.std.proofs.Common.{rules, ◌≡◌, ◌∙◌, sym, ap, ℕ, List, length, Option, None, true}
use Rattle.smb_le.specs.Numbers.{number_at}
use Rattle.smb_field.specs.declared.field.BodyFault.{BodyFault}
use Rattle.smb_field.specs.Body.{Lends}
use Rattle.smb_body_b.specs.Contexts.{read_of}
use Rattle.smb_field.specs.Faults.{strays, fault_of}
use Rattle.smb_mux.specs.Bodies.{first_fault, contexts_fault, contexts_of}
use Rattle.smb_mux.proofs.BodyLaws.{lent_part}
use Rattle.smb_mux.proofs.bodies.create_fault.Goals as goal

pub returns-in-Ok : goal.returns-in-Ok
returns-in-Ok c =
    let m = c.args.part.now in
    let part = c.in-Ok.reply.contexts.now in
    let lends : Lends 152 part m (number_at 4 144 m) = search rules in
    let many : number_at 4 148 m ≡ length part = search rules in
    let sound : fault_of 89 (strays 152 (number_at 4 144 m) (number_at 4 148 m) m) m ≡ None = search rules in
    c.contexts_fault.ensures
    ∙ ap (λ (l : List ℕ). contexts_fault (read_of true l)) (sym (lent_part 152 (number_at 4 144 m) (number_at 4 148 m) part m lends many))
    ∙ ap (λ (o : Option BodyFault). first_fault o (contexts_fault (read_of true (contexts_of m)))) (sym sound)

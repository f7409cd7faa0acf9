use Rattle.std.proofs.Common.{ap, sym, ◌∙◌, ◌++◌, ◌<◌, ℕ, arith}
use Rattle.smb_field.specs.declared.field.Places.{Places}
use Rattle.smb_field.specs.Fields.{spelled, width_of}
use Rattle.smb_field.specs.Body.{named}
use Rattle.smb_field.specs.Structure.{spelling_in}
use Rattle.smb_field.proofs.ReadingIn.{read_again_in, length-spelling_in}
use Rattle.smb_field.proofs.write.put_structure.Goals as goal

pub returns-in-Ok : goal.returns-in-Ok
unfolding spelling_in
returns-in-Ok c =
    let fits : width_of c.args.fields.now < 256 = omega (arith, c.requires) in (
      c.in-Ok.ensures.ok.0
          ∙ ap (λ (places : Places). c.args.out.now.items ++ (spelled places c.args.fields.now ++ c.args.part.now))
          (c.places_in.ensures ∙ ap (λ (w : ℕ). record { behind = w; first = named c.args.part.now w; second = 0 }) (sym c.requires)),
      read_again_in _ _ fits c.in-Ok.ensures.ok.1,
      length-spelling_in _ _ c.in-Ok.ensures.ok.1,
    )

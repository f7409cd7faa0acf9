use Rattle.std.proofs.Common.{ap, ◌∙◌, ◌++◌}
use Rattle.smb_le.specs.Numbers.{bytes_of}
use Rattle.smb_field.specs.declared.field.Places.{Places}
use Rattle.smb_field.specs.Fields.{spelled}
use Rattle.smb_field.specs.Body.{spelling, tail}
use Rattle.smb_field.proofs.Reading.{read_again, length-spelling}
use Rattle.smb_field.proofs.write.put_varied.Goals as goal

pub returns-in-Ok : goal.returns-in-Ok
unfolding spelling
returns-in-Ok c = (
  c.in-Ok.ensures.ok.0
      ∙ ap (λ (places : Places). c.args.out.now.items ++ (bytes_of 2 c.args.size ++ (spelled places c.args.fields.now ++ tail c.args.size c.args.part.now))) c.places_of.ensures,
  read_again _ _ _ c.requires.small c.requires.whole c.in-Ok.ensures.ok.1,
  length-spelling _ _ _ c.requires.whole c.in-Ok.ensures.ok.1,
)

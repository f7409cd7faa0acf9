use Rattle.std.proofs.Common.{ap, ◌∙◌, ◌++◌}
use Rattle.smb_le.specs.Numbers.{bytes_of}
use Rattle.smb_field.specs.declared.field.Places.{Places}
use Rattle.smb_field.specs.Fields.{spelled}
use Rattle.smb_field.specs.TwoParts.{spelling_of_two, tail_of_two}
use Rattle.smb_field.proofs.ReadingTwo.{two_read_again, length-spelling_of_two}
use Rattle.smb_field.proofs.write.put_parts.Goals as goal

pub returns-in-Ok : goal.returns-in-Ok
unfolding spelling_of_two
returns-in-Ok c = (
  c.in-Ok.ensures.ok.0
      ∙ ap (λ (places : Places). c.args.out.now.items ++ (bytes_of 2 c.args.size ++ (spelled places c.args.fields.now ++ tail_of_two c.args.size c.args.first.now c.args.second.now))) c.places_of_two.ensures,
  two_read_again _ _ _ _ c.requires.small c.requires.whole c.requires.short c.in-Ok.ensures.ok.1,
  length-spelling_of_two _ _ _ _ c.requires.whole c.in-Ok.ensures.ok.1,
)

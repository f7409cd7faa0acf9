use Rattle.smb_field.proofs.Spelling.{Written}
use Rattle.smb_field.proofs.write.put_fields.Given as goal

-- so far the fields up to the index are appended
abbrev pub invariant-loop-field : goal.invariant-loop-field
invariant-loop-field l = Written l.places l.fields l.field-index l.fn.out.items l.out.items

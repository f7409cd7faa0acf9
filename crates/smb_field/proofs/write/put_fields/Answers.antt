use Rattle.smb_field.proofs.Spelling.{written_more, written_all}
use Rattle.smb_field.proofs.write.put_fields.Goals as goal

pub loop-field-preserved : goal.loop-field-preserved
loop-field-preserved c = written_more _ _ _ _ _ _ _ c.loop-field-test.true c.loop-field.invariant c.in_ok-put_field.ensures.fits c.in_ok-put_field.ensures.ok

pub returns-clause-ok : goal.returns-clause-ok
returns-clause-ok c = written_all _ _ _ _ _ c.loop-field-test.false c.loop-field.invariant

use Rattle.share_box.proofs.bodies.put_done.Goals as goal

pub returns-in-Opened-clause-ok : goal.returns-in-Opened-clause-ok
returns-in-Opened-clause-ok c = rw c.in-Opened.is c.put_opened.ensures.ok

pub returns-in-Opened-clause-len : goal.returns-in-Opened-clause-len
returns-in-Opened-clause-len c = rw c.in-Opened.is c.put_opened.ensures.len

pub returns-in-Opened-clause-again : goal.returns-in-Opened-clause-again
returns-in-Opened-clause-again c = rw c.in-Opened.is c.put_opened.ensures.again

pub returns-else-in_part-clause-len : goal.returns-else-in_part-clause-len
returns-else-in_part-clause-len c = rw (c.in-Info.is, c.if-in_part.false, ← c.info_of-all.ensures) c.put_info.ensures.len

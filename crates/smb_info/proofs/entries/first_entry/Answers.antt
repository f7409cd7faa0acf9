use Rattle.std.proofs.Common.{sym}
use Rattle.smb_info.proofs.EntryLaws.{first_step, step-of_fault}
use Rattle.smb_info.proofs.entries.first_entry.Goals as goal

pub returns-in-Ok : goal.returns-in-Ok
returns-in-Ok c = first_step c.in-Ok.entry c.args.info.now c.after-rest.result c.in-Ok.ensures.reads c.after-rest.ensures

pub returns-in-Err : goal.returns-in-Err
returns-in-Err c = sym (step-of_fault c.in-Err.fault c.args.info.now c.in-Err.ensures.reads)

use Rattle.smb_link.specs.Came.{seen_by}
use Rattle.smb_link.proofs.CameLaws.{came_none, came_mark}
use Rattle.fs_top.proofs.Outputs.{told_came, told_why}
use Rattle.fs_top.proofs.output.tell.Goals as goal

pub returns-in-Ok-clause-came : goal.returns-in-Ok-clause-came
returns-in-Ok-clause-came g c =
    let seen = seen_by g.L.Link.story g.L.Link.connect_faults g.L.Link.cuts g.L.Link.quiets in
    let e = c.mark.ensures in
    told_came c.args.mark.now c.mark.result c.told_so.result (seen c.args.link.now) (seen c.mark.new.self) c.told_so.ensures
    (came_mark (seen c.args.link.now) (seen c.mark.new.self) c.args.mark.now c.mark.result e.story e.faults e.cuts e.quiets)

pub returns-in-Ok-clause-why : goal.returns-in-Ok-clause-why
returns-in-Ok-clause-why g c = told_why c.mark.result c.told_so.result c.told_so.ensures

pub returns-in-Err-clause-came : goal.returns-in-Err-clause-came
returns-in-Err-clause-came g c = came_none (seen_by g.L.Link.story g.L.Link.connect_faults g.L.Link.cuts g.L.Link.quiets c.args.link.now)

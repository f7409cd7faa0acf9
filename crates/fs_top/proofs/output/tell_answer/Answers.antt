use Rattle.smb_link.specs.Came.{seen_by}
use Rattle.smb_link.specs.declared.mark.Mark.TheVariants as mark
use Rattle.smb_link.proofs.CameLaws.{came_mark}
use Rattle.fs_top.proofs.Outputs.{mark_told, told_alone, told_why}
use Rattle.fs_top.proofs.output.tell_answer.Goals as goal

pub returns : goal.returns
returns g c =
    let seen = seen_by g.L.Link.story g.L.Link.connect_faults g.L.Link.cuts g.L.Link.quiets in
    let e = c.mark.ensures in
    record {
      alone = told_alone (mark.Answer c.args.number c.args.answer) c.mark.result c.told_so.result (g.L.Link.story c.args.link.now) (g.L.Link.story c.mark.new.self) c.told_so.ensures e.alone;
      came = mark_told (mark.Answer c.args.number c.args.answer) c.mark.result c.told_so.result (seen c.args.link.now) (seen c.mark.new.self) c.told_so.ensures
          (came_mark (seen c.args.link.now) (seen c.mark.new.self) (mark.Answer c.args.number c.args.answer) c.mark.result e.story e.faults e.cuts e.quiets);
      why = told_why c.mark.result c.told_so.result c.told_so.ensures;
      places = (e.places, e.own_cuts);
    }

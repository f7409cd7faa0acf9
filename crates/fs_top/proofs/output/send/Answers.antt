use Rattle.std.proofs.Common.{ℕ, List, subst}
use Rattle.fs_core.specs.declared.output.Output.TheVariants as output
use Rattle.fs_top.specs.Steps.{events_carried}
use Rattle.smb_link.specs.Came.{seen_by, Came}
use Rattle.smb_link.proofs.CameLaws.{came_send}
use Rattle.fs_top.proofs.Outputs.{sent_came, sent_why}
use Rattle.fs_top.proofs.output.send.Goals as goal

pub returns-clause-came : goal.returns-clause-came
returns-clause-came g c =
    let seen = seen_by g.L.Link.story g.L.Link.connect_faults g.L.Link.cuts g.L.Link.quiets in
    let e = c.send.ensures in
    subst (λ (frame : List ℕ). Came (events_carried (output.Send frame) c.sent_so.result) (seen c.args.link.now) (seen c.send.new.self)) c.as_slice.ensures
    (sent_came c.as_slice.result.now c.send.result c.sent_so.result (seen c.args.link.now) (seen c.send.new.self) c.sent_so.ensures
    (came_send (seen c.args.link.now) (seen c.send.new.self) c.as_slice.result.now c.send.result e.story e.faults e.cuts e.quiets))

pub returns-clause-why : goal.returns-clause-why
returns-clause-why g c = sent_why c.args.frame.now c.send.result c.sent_so.result c.sent_so.ensures

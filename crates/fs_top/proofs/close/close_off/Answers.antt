use Rattle.std.proofs.Common.{ℕ, List, subst}
use Rattle.smb_link.specs.Came.{seen_by}
use Rattle.fs_top.specs.Printing.{held_by}
use Rattle.fs_top.specs.Closing.{ClosesWith}
use Rattle.fs_top.proofs.Closed.{closes_with, closes_none}
use Rattle.fs_top.proofs.close.close_off.Goals as goal

pub returns-in-Some-clause-closes : goal.returns-in-Some-clause-closes
returns-in-Some-clause-closes g c =
    let seen = seen_by g.L.Link.story g.L.Link.connect_faults g.L.Link.cuts g.L.Link.quiets in
    let held = held_by g.K.Sink.written g.K.Sink.faults g.K.Sink.stalls in
    closes_with c.in-Some.errno.0 c.args.running.now c.args.end c.close_with.result (seen c.args.link.now) (seen c.close_with.new.link) (held c.args.out.now) (held c.close_with.new.out) c.in-Some.ensures
    (subst (λ (l : List ℕ). ClosesWith c.in-Some.errno.0 l c.args.end c.close_with.result (seen c.args.link.now) (seen c.close_with.new.link) (held c.args.out.now) (held c.close_with.new.out))
    c.as_slice.ensures c.close_with.ensures.closes)

pub returns-in-None-clause-closes : goal.returns-in-None-clause-closes
returns-in-None-clause-closes g c =
    closes_none c.args.running.now c.args.end (seen_by g.L.Link.story g.L.Link.connect_faults g.L.Link.cuts g.L.Link.quiets c.args.link.now)
    (held_by g.K.Sink.written g.K.Sink.faults g.K.Sink.stalls c.args.out.now) c.in-None.ensures

use Rattle.smb_link.specs.Came.{seen_by}
use Rattle.smb_link.specs.Once.{WentOnlyTo}
use Rattle.fs_top.proofs.Joining.{Tried, IsCutOnce}
use Rattle.fs_top.proofs.join.join.Given as goal

-- the connects so far failed
abbrev pub invariant-loop-tried : goal.invariant-loop-tried
invariant-loop-tried g l = record {
  tried : Tried (g.L.Link.stands l.fn.link) (g.L.Link.stands l.link) l._tried (seen_by g.L.Link.story g.L.Link.connect_faults g.L.Link.cuts g.L.Link.quiets l.fn.link)
      (seen_by g.L.Link.story g.L.Link.connect_faults g.L.Link.cuts g.L.Link.quiets l.link);
  places : WentOnlyTo (record { host = l.host; port = l.port }) (g.L.Link.places l.fn.link) (g.L.Link.places l.link);
  own_cuts : IsCutOnce (g.L.Link.stands l.fn.link) (g.L.Link.stands l.link) (g.L.Link.own_cuts l.fn.link) (g.L.Link.own_cuts l.link);
}

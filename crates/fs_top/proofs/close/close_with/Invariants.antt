use Rattle.std.specs.Prelude.{◌≡◌, take}
use Rattle.smb_link.specs.Came.{seen_by}
use Rattle.fs_top.specs.Printing.{held_by}
use Rattle.fs_top.proofs.Closed.{Closing}
use Rattle.fs_top.proofs.close.close_with.Given as goal

-- so many calls were answered so far
abbrev pub invariant-loop-number : goal.invariant-loop-number
invariant-loop-number g l = record {
  so_far : Closing l.errno.0 (take l.number-index l.running)
      (seen_by g.L.Link.story g.L.Link.connect_faults g.L.Link.cuts g.L.Link.quiets l.fn.link) (seen_by g.L.Link.story g.L.Link.connect_faults g.L.Link.cuts g.L.Link.quiets l.link)
      (held_by g.K.Sink.written g.K.Sink.faults g.K.Sink.stalls l.fn.out) (held_by g.K.Sink.written g.K.Sink.faults g.K.Sink.stalls l.out);
  places : (g.L.Link.places l.link ≡ g.L.Link.places l.fn.link) × (g.L.Link.own_cuts l.link ≡ g.L.Link.own_cuts l.fn.link);
}

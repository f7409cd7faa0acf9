-- so many outputs were carried out so far
use Rattle.std.specs.Prelude.{◌≡◌, length}
use Rattle.smb_link.specs.Came.{seen_by}
use Rattle.fs_top.specs.Printing.{held_by}
use Rattle.fs_top.specs.Steps.{AllElse}
use Rattle.fs_top.proofs.Outputs.{Carrying, Keeping}
use Rattle.fs_top.proofs.output.carry_out.Given as goal

abbrev pub invariant-loop-output : goal.invariant-loop-output
invariant-loop-output g l = record {
  so_far : Carrying l.fn.engine.core.outs l.engine.core.outs l.fn.engine.running l.engine.running
      (seen_by g.L.Link.story g.L.Link.connect_faults g.L.Link.cuts g.L.Link.quiets l.fn.link) (seen_by g.L.Link.story g.L.Link.connect_faults g.L.Link.cuts g.L.Link.quiets l.link)
      (held_by g.K.Sink.written g.K.Sink.faults g.K.Sink.stalls l.fn.out) (held_by g.K.Sink.written g.K.Sink.faults g.K.Sink.stalls l.out);
  keeps : Keeping l.fn.engine.core l.engine.core;
  rest : AllElse l.fn.engine l.engine;
  places : (g.L.Link.places l.link ≡ g.L.Link.places l.fn.link) × (g.L.Link.own_cuts l.link ≡ g.L.Link.own_cuts l.fn.link);
}

abbrev pub decreases-loop-output : goal.decreases-loop-output
decreases-loop-output g l = length l.engine.core.outs

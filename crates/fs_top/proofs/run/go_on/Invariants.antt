use Rattle.std.specs.Prelude.{◌≡◌, [], Ok}
use Rattle.fs_top.specs.Steps.{IsReady, state_of}
use Rattle.fs_top.specs.Going.{outside_by, Goes}
use Rattle.fs_top.proofs.run.go_on.Given as goal

-- turns were taken so far, and the run goes on
abbrev pub invariant-loop-turn : goal.invariant-loop-turn
invariant-loop-turn g l = record {
  goes : Goes l.fn.engine.patience (state_of l.fn.engine []) l.fn.engine.over (Ok tt) (state_of l.engine []) l.engine.over
      (outside_by g.S.Source.left g.S.Source.faults g.K.Sink.written g.K.Sink.faults g.K.Sink.stalls g.L.Link.story g.L.Link.connect_faults g.L.Link.cuts g.L.Link.quiets g.C.Clock.told
      l.fn.engine.ahead l.fn.input l.fn.out l.fn.link l.fn.clock)
      (outside_by g.S.Source.left g.S.Source.faults g.K.Sink.written g.K.Sink.faults g.K.Sink.stalls g.L.Link.story g.L.Link.connect_faults g.L.Link.cuts g.L.Link.quiets g.C.Clock.told
      l.engine.ahead l.input l.out l.link l.clock);
  ready : IsReady l.engine;
  patience : l.engine.patience ≡ l.fn.engine.patience;
  places : (g.L.Link.places l.link ≡ g.L.Link.places l.fn.link) × (g.L.Link.own_cuts l.link ≡ g.L.Link.own_cuts l.fn.link);
}

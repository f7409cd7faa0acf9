use Rattle.std.proofs.Common.{◌∙◌, ℕ, [], Ok, Err, refl, subst}
use Rattle.fs_top.specs.Steps.{state_of}
use Rattle.fs_top.specs.Going.{Outside, outside_by, Goes}
use Rattle.fs_top.proofs.Goings.{goes_none, goes_then, goes_out}
use Rattle.fs_top.proofs.run.go_on.Goals as goal

pub loop-turn-init : goal.loop-turn-init
loop-turn-init g c = record {
  goes = goes_none c.args.engine.now.patience (state_of c.args.engine.now []) c.args.engine.now.over
      (outside_by g.S.Source.left g.S.Source.faults g.K.Sink.written g.K.Sink.faults g.K.Sink.stalls g.L.Link.story g.L.Link.connect_faults g.L.Link.cuts g.L.Link.quiets g.C.Clock.told
      c.args.engine.now.ahead c.args.input.now c.args.out.now c.args.link.now c.args.clock.now) c.requires.ready.stopped;
  ready = c.requires.ready;
  patience = refl;
  places = (refl, refl);
}

pub loop-turn-preserved : goal.loop-turn-preserved
loop-turn-preserved g c =
    let outside = outside_by g.S.Source.left g.S.Source.faults g.K.Sink.written g.K.Sink.faults g.K.Sink.stalls g.L.Link.story g.L.Link.connect_faults g.L.Link.cuts g.L.Link.quiets g.C.Clock.told in
    let first = c.loop-turn.engine in
    let last = c.turn.new.engine in
    let a : Outside = outside c.args.engine.now.ahead c.args.input.now c.args.out.now c.args.link.now c.args.clock.now in
    let b : Outside = outside first.ahead c.loop-turn.input c.loop-turn.out c.loop-turn.link c.loop-turn.clock in
    let d : Outside = outside last.ahead c.turn.new.input c.turn.new.out c.turn.new.link c.turn.new.clock in
    let so = c.loop-turn.invariant in
    let e = c.in-Ok.ensures in
    record {
      goes = goes_then c.args.engine.now.patience (Ok tt) (state_of c.args.engine.now []) (state_of first []) (state_of last []) c.args.engine.now.over first.over last.over a b d
          so.goes (subst (λ (p : ℕ). Goes p (state_of first []) first.over (Ok tt) (state_of last []) last.over b d) so.patience e.goes);
      ready = e.ready;
      patience = e.patience ∙ so.patience;
      places = (e.places.0 ∙ so.places.0, e.places.1 ∙ so.places.1);
    }

pub returns-in-Err : goal.returns-in-Err
returns-in-Err g c =
    let outside = outside_by g.S.Source.left g.S.Source.faults g.K.Sink.written g.K.Sink.faults g.K.Sink.stalls g.L.Link.story g.L.Link.connect_faults g.L.Link.cuts g.L.Link.quiets g.C.Clock.told in
    let first = c.loop-turn.engine in
    let last = c.turn.new.engine in
    let a : Outside = outside c.args.engine.now.ahead c.args.input.now c.args.out.now c.args.link.now c.args.clock.now in
    let b : Outside = outside first.ahead c.loop-turn.input c.loop-turn.out c.loop-turn.link c.loop-turn.clock in
    let d : Outside = outside last.ahead c.turn.new.input c.turn.new.out c.turn.new.link c.turn.new.clock in
    let so = c.loop-turn.invariant in
    let e = c.in-Err.ensures in
    record {
      goes = goes_then c.args.engine.now.patience (Err c.in-Err.end) (state_of c.args.engine.now []) (state_of first []) (state_of last []) c.args.engine.now.over first.over last.over a b d
          so.goes (subst (λ (p : ℕ). Goes p (state_of first []) first.over (Err c.in-Err.end) (state_of last []) last.over b d) so.patience e.goes);
      places = (e.places.0 ∙ so.places.0, e.places.1 ∙ so.places.1);
    }

pub returns : goal.returns
returns g c =
    let outside = outside_by g.S.Source.left g.S.Source.faults g.K.Sink.written g.K.Sink.faults g.K.Sink.stalls g.L.Link.story g.L.Link.connect_faults g.L.Link.cuts g.L.Link.quiets g.C.Clock.told in
    let last = c.loop-turn.engine in
    let a : Outside = outside c.args.engine.now.ahead c.args.input.now c.args.out.now c.args.link.now c.args.clock.now in
    let b : Outside = outside last.ahead c.loop-turn.input c.loop-turn.out c.loop-turn.link c.loop-turn.clock in
    record {
      goes = goes_out c.args.engine.now.patience (state_of c.args.engine.now []) (state_of last []) (state_of last []) c.args.engine.now.over last.over a b c.loop-turn.invariant.goes;
      places = c.loop-turn.invariant.places;
    }

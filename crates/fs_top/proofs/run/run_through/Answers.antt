use Rattle.std.proofs.Common.{◌∙◌, ℕ, [], Err, refl, ap, subst}
use Rattle.fs_ahead.specs.Script.{Place}
use Rattle.fs_ahead.specs.Progress.{reads_by}
use Rattle.fs_top.specs.Steps.{state_of}
use Rattle.fs_top.specs.Going.{Outside, outside_by, Goes}
use Rattle.fs_top.proofs.Started.{through_on, through_ended}
use Rattle.fs_top.proofs.run.run_through.Goals as goal

pub returns-in-Ok-clause-through : goal.returns-in-Ok-clause-through
returns-in-Ok-clause-through g c =
    let outside = outside_by g.S.Source.left g.S.Source.faults g.K.Sink.written g.K.Sink.faults g.K.Sink.stalls g.L.Link.story g.L.Link.connect_faults g.L.Link.cuts g.L.Link.quiets g.C.Clock.told in
    let first = c.args.engine.now in
    let joined = c.begin.new.engine in
    let last = c.go_on.new.engine in
    let a : Outside = outside first.ahead c.args.input.now c.args.out.now c.args.link.now c.args.clock.now in
    let b : Outside = outside joined.ahead c.args.input.now c.begin.new.out c.begin.new.link c.args.clock.now in
    let d : Outside = outside last.ahead c.go_on.new.input c.go_on.new.out c.go_on.new.link c.go_on.new.clock in
    let e = c.in-Ok.ensures in
    through_on c.args.tries first.patience (g.L.Link.stands c.args.link.now) (state_of first []) (state_of joined []) (state_of last []) c.go_on.result joined.over last.over a b d
    e.begins (ap (λ (p : Place). reads_by g.S.Source.left g.S.Source.faults p c.args.input.now) e.ahead.0) refl (e.ahead.1 ∙ c.requires.fresh)
    (subst (λ (p : ℕ). Goes p (state_of joined []) joined.over (Err c.go_on.result) (state_of last []) last.over b d) e.patience c.go_on.ensures.goes)

pub returns-in-Err-clause-through : goal.returns-in-Err-clause-through
returns-in-Err-clause-through g c =
    let outside = outside_by g.S.Source.left g.S.Source.faults g.K.Sink.written g.K.Sink.faults g.K.Sink.stalls g.L.Link.story g.L.Link.connect_faults g.L.Link.cuts g.L.Link.quiets g.C.Clock.told in
    let first = c.args.engine.now in
    let joined = c.begin.new.engine in
    let a : Outside = outside first.ahead c.args.input.now c.args.out.now c.args.link.now c.args.clock.now in
    let b : Outside = outside joined.ahead c.args.input.now c.begin.new.out c.begin.new.link c.args.clock.now in
    let e = c.in-Err.ensures in
    through_ended c.args.tries first.patience (g.L.Link.stands c.args.link.now) (state_of first []) (state_of joined []) c.in-Err.end joined.over a b
    e.begins (ap (λ (p : Place). reads_by g.S.Source.left g.S.Source.faults p c.args.input.now) e.ahead.0) refl (e.ahead.1 ∙ c.requires.fresh)

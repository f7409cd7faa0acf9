use Rattle.std.proofs.Common.{ℕ, [], refl, subst}
use Rattle.fs_ahead.specs.Script.{Place}
use Rattle.fs_top.specs.Steps.{state_of}
use Rattle.fs_top.specs.Going.{Outside, outside_by}
use Rattle.fs_top.specs.Running.{first_place, RanThrough}
use Rattle.fs_top.specs.Run.{core_of, joined_with}
use Rattle.fs_top.proofs.Started.{never_began, ran_script}
use Rattle.fs_top.proofs.run.run_script.Goals as goal

pub returns-in-Err-clause-runs : goal.returns-in-Err-clause-runs
returns-in-Err-clause-runs g c = (
  first_place,
  never_began 4 300 (g.L.Link.stands c.args.link.now) (joined_with (core_of c.args.seed c.args.host.now c.args.share.now))
      (outside_by g.S.Source.left g.S.Source.faults g.K.Sink.written g.K.Sink.faults g.K.Sink.stalls g.L.Link.story g.L.Link.connect_faults g.L.Link.cuts g.L.Link.quiets g.C.Clock.told
      first_place c.args.input.now c.args.out.now c.args.link.now c.args.clock.now),
)

pub returns-clause-runs : goal.returns-clause-runs
returns-clause-runs g c =
    let outside = outside_by g.S.Source.left g.S.Source.faults g.K.Sink.written g.K.Sink.faults g.K.Sink.stalls g.L.Link.story g.L.Link.connect_faults g.L.Link.cuts g.L.Link.quiets g.C.Clock.told in
    let stood = g.L.Link.stands c.args.link.now in
    let first = c.in-Ok.engine in
    let last = c.run_through-end.new.engine in
    let new = c.run_through-end.new in
    let b : Outside = outside last.ahead new.input new.out new.link new.clock in
    let fresh = c.in-Ok.ensures.fresh in
    let by_patience : RanThrough 4 300 stood (state_of first []) c.run_through-end.result (state_of last []) last.over
    (outside first.ahead c.args.input.now c.args.out.now c.args.link.now c.args.clock.now) b =
    subst (λ (p : ℕ). RanThrough 4 p stood (state_of first []) c.run_through-end.result (state_of last []) last.over
    (outside first.ahead c.args.input.now c.args.out.now c.args.link.now c.args.clock.now) b) fresh.2 c.run_through-end.ensures.through in
    let through : RanThrough 4 300 stood (state_of first []) c.run_through-end.result (state_of last []) last.over
    (outside first_place c.args.input.now c.args.out.now c.args.link.now c.args.clock.now) b =
    subst (λ (p : Place). RanThrough 4 300 stood (state_of first []) c.run_through-end.result (state_of last []) last.over
    (outside p c.args.input.now c.args.out.now c.args.link.now c.args.clock.now) b) fresh.1 by_patience in (
      last.ahead,
      ran_script 4 300 stood (joined_with (core_of c.args.seed c.args.host.now c.args.share.now)) (state_of first []) (state_of last []) c.run_through-end.result c.close_off.result last.over
          (outside first_place c.args.input.now c.args.out.now c.args.link.now c.args.clock.now) b (outside last.ahead new.input c.close_off.new.out c.close_off.new.link new.clock)
          c.in-Ok.ensures.state through c.close_off.ensures.closes refl refl,
    )

use Rattle.std.proofs.Common.{refl, arith, ℕ, List}
use Rattle.std.specs.Prelude.{option_map}
use Rattle.smb_link.specs.Came.{seen_by}
use Rattle.smb_link.specs.Once.{WentOnlyTo}
use Rattle.fs_ahead.specs.Script.{coming_of}
use Rattle.fs_top.specs.Going.{outside_by}
use Rattle.fs_top.specs.Printing.{held_by}
use Rattle.fs_top.specs.Running.{first_place}
use Rattle.fs_top.specs.Run.{run_options, tries_of, core_of, RunIs}
use Rattle.fs_top.proofs.Clean.{run_clean}
use Rattle.fs_top.proofs.Completed.{completes}
use Rattle.fs_top.proofs.Plain.{run_plain}
use Rattle.fs_top.proofs.Promised.{at_rest}
use Rattle.fs_top.proofs.RunWords.{along_words}
use Rattle.fs_top.proofs.Thrift.{run_thrifty}
use Rattle.fs_top.proofs.Whole.{run_is}
use Rattle.fs_top.proofs.top.smbfs.Goals as goal

pub returns-in-Some-clause-runs : goal.returns-in-Some-clause-runs
returns-in-Some-clause-runs g c host port share is =
    let seen = seen_by g.L.Link.story g.L.Link.connect_faults g.L.Link.cuts g.L.Link.quiets in
    let held = held_by g.K.Sink.written g.K.Sink.faults g.K.Sink.stalls in
    let outside = outside_by g.S.Source.left g.S.Source.faults g.K.Sink.written g.K.Sink.faults g.K.Sink.stalls g.L.Link.story g.L.Link.connect_faults g.L.Link.cuts g.L.Link.quiets g.C.Clock.told in
    along_words (λ (h : List ℕ) (p : ℕ) (s : List ℕ). RunIs (core_of c.args.seed h s) (tries_of run_options) run_options.patience (option_map coming_of (g.S.Source.left c.args.input.now))
    (g.S.Source.faults c.args.input.now) (g.S.Source.faults c.run_script-end.new.input) (g.C.Clock.told c.args.clock.now) (g.C.Clock.told c.run_script-end.new.clock) (g.L.Link.stands c.args.link.now)
    (seen c.args.link.now) (seen c.run_script-end.new.link) (held c.args.out.now) (held c.close.new.out) c.close.result)
    _ c.in-Some.host.now host c.in-Some.port port c.in-Some.share.now share c.in-Some.ensures.found is
    (run_is c.args.seed c.in-Some.host.now c.in-Some.share.now (tries_of run_options) run_options.patience (g.L.Link.stands c.args.link.now) c.run_script-end.result
    (outside first_place c.args.input.now c.args.out.now c.args.link.now c.args.clock.now)
    (outside c.run_script-end.ensures.runs.0 c.run_script-end.new.input c.run_script-end.new.out c.run_script-end.new.link c.run_script-end.new.clock) (held c.close.new.out) c.close.result
    refl c.run_script-end.ensures.runs.1 c.close.ensures.printed)

pub returns-in-Some-clause-places : goal.returns-in-Some-clause-places
returns-in-Some-clause-places g c host port share is =
    along_words (λ (h : List ℕ) (p : ℕ) (s : List ℕ). WentOnlyTo (record { host = h; port = p }) (g.L.Link.places c.args.link.now) (g.L.Link.places c.run_script-end.new.link))
    _ c.in-Some.host.now host c.in-Some.port port c.in-Some.share.now share c.in-Some.ensures.found is c.run_script-end.ensures.places

pub returns-in-Some-clause-plain : goal.returns-in-Some-clause-plain
returns-in-Some-clause-plain g c host port share is none begins =
    run_plain _ _ _ _ _ _ _ _ _ _ _ _ _ (at_rest _ _ _ _ _ _ _ _ _ _ _ _ _ _ none (returns-in-Some-clause-runs g c host port share is)) begins

pub returns-in-Some-clause-clean : goal.returns-in-Some-clause-clean
returns-in-Some-clause-clean g c host port share is none begins =
    run_clean _ _ _ _ _ _ _ _ _ _ _ _ _ (at_rest _ _ _ _ _ _ _ _ _ _ _ _ _ _ none (returns-in-Some-clause-runs g c host port share is)) begins

pub returns-in-Some-clause-thrift : goal.returns-in-Some-clause-thrift
returns-in-Some-clause-thrift g c host port share is none begins =
    run_thrifty _ _ _ _ _ _ _ _ _ _ _ _ _ (at_rest _ _ _ _ _ _ _ _ _ _ _ _ _ _ none (returns-in-Some-clause-runs g c host port share is)) begins

pub returns-in-Some-clause-completes : goal.returns-in-Some-clause-completes
returns-in-Some-clause-completes g c host port share is none begins =
    completes _ _ _ _ _ _ _ _ _ _ _ _ _ (omega arith) (at_rest _ _ _ _ _ _ _ _ _ _ _ _ _ _ none (returns-in-Some-clause-runs g c host port share is)) begins

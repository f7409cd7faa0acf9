use Rattle.std.proofs.Common.{◌∙◌, ℕ, [], ◌∷◌, subst, Ok, Err}
use Rattle.std.specs.Prelude.{IfErr}
use Rattle.smb_link.specs.Came.{seen_by}
use Rattle.fs_core.specs.declared.input.Input.TheVariants as input
use Rattle.fs_top.specs.declared.run_end.End.{End}
use Rattle.fs_top.specs.Printing.{held_by}
use Rattle.fs_top.specs.Steps.{state_of, RanBy}
use Rattle.fs_top.proofs.Runs.{ready_now, listened_none, listened_frame, listened_end, not_through}
use Rattle.fs_top.proofs.Takings.{listens_one, listens_stop, listens_two}
use Rattle.fs_top.proofs.turn.listen.Goals as goal

pub take-requires : goal.take-requires
take-requires g c = record { ready = ready_now c.now.result c.args.engine.now c.requires.ready }

pub returns-in-Err-clause-listens : goal.returns-in-Err-clause-listens
returns-in-Err-clause-listens g c =
    let seen = seen_by g.L.Link.story g.L.Link.connect_faults g.L.Link.cuts g.L.Link.quiets in
    let held = held_by g.K.Sink.written g.K.Sink.faults g.K.Sink.stalls in
    listens_stop c.now.result c.args.engine.now.patience (state_of c.args.engine.now []) c.args.engine.now.over c.in-Err.end (state_of c.take.new.engine [])
    (seen c.args.link.now) (seen c.take.new.link) (held c.args.out.now) (held c.take.new.out) (g.C.Clock.told c.args.clock.now) (g.C.Clock.told c.now.new.self)
    c.in-Err.ensures.ends c.in-Err.ensures.over c.now.ensures.told

pub returns-in-Ok-Some-clause-listens : goal.returns-in-Ok-Some-clause-listens
returns-in-Ok-Some-clause-listens g c =
    let seen = seen_by g.L.Link.story g.L.Link.connect_faults g.L.Link.cuts g.L.Link.quiets in
    let held = held_by g.K.Sink.written g.K.Sink.faults g.K.Sink.stalls in
    let s = state_of c.args.engine.now [] in
    let first = listened_frame c.args.engine.now.patience c.now.result c.in-Ok-Some.frame s c.take.new.engine c.hear.new.engine
    (seen c.args.link.now) (seen c.take.new.link) (seen c.hear.new.link) (held c.args.out.now) (held c.take.new.out)
    c.in-Ok.ensures.gave c.in-Ok.ensures.patience (rw c.in-Ok-Some.field-0-is at c.in-Ok-Some.ensures.heard) in
    listens_two c.now.result c.args.engine.now.patience c.in-Ok-Some.frame s (state_of c.hear.new.engine (c.in-Ok-Some.frame ∷ [])) (state_of c.take-in-Ok-Some.new.engine [])
    c.args.engine.now.over c.hear.new.engine.over c.take-in-Ok-Some.result
    (seen c.args.link.now) (seen c.hear.new.link) (seen c.take-in-Ok-Some.new.link) (held c.args.out.now) (held c.take.new.out) (held c.take-in-Ok-Some.new.out)
    (g.C.Clock.told c.args.clock.now) (g.C.Clock.told c.now.new.self) first
    (subst (λ (p : ℕ). IfErr c.take-in-Ok-Some.result (λ (why : End). RanBy (input.Frame c.in-Ok-Some.frame) p (state_of c.hear.new.engine (c.in-Ok-Some.frame ∷ [])) (Err why)
    (state_of c.take-in-Ok-Some.new.engine []) (seen c.hear.new.link) (seen c.take-in-Ok-Some.new.link) (held c.take.new.out) (held c.take-in-Ok-Some.new.out)))
    (c.in-Ok-Some.ensures.patience ∙ c.in-Ok.ensures.patience) c.take-in-Ok-Some.ensures.ends)
    c.take-in-Ok-Some.ensures.gave (c.in-Ok-Some.ensures.ahead.1 ∙ c.in-Ok.ensures.ahead.1) c.take-in-Ok-Some.ensures.over c.now.ensures.told

pub returns-in-Ok-None-clause-listens : goal.returns-in-Ok-None-clause-listens
returns-in-Ok-None-clause-listens g c =
    let seen = seen_by g.L.Link.story g.L.Link.connect_faults g.L.Link.cuts g.L.Link.quiets in
    let held = held_by g.K.Sink.written g.K.Sink.faults g.K.Sink.stalls in
    listens_one c.now.result c.args.engine.now.patience (state_of c.args.engine.now []) c.args.engine.now.over (Ok tt) (state_of c.hear.new.engine [])
    (seen c.args.link.now) (seen c.hear.new.link) (held c.args.out.now) (held c.take.new.out) (g.C.Clock.told c.args.clock.now) (g.C.Clock.told c.now.new.self)
    (listened_none c.args.engine.now.patience c.now.result (state_of c.args.engine.now []) c.take.new.engine c.hear.new.engine
    (seen c.args.link.now) (seen c.take.new.link) (seen c.hear.new.link) (held c.args.out.now) (held c.take.new.out)
    c.in-Ok.ensures.gave c.in-Ok.ensures.patience (rw c.in-Ok-None.field-0-is at c.in-Ok-None.ensures.heard))
    tt c.now.ensures.told

pub returns-in-Err-hear-clause-listens : goal.returns-in-Err-hear-clause-listens
returns-in-Err-hear-clause-listens g c =
    let seen = seen_by g.L.Link.story g.L.Link.connect_faults g.L.Link.cuts g.L.Link.quiets in
    let held = held_by g.K.Sink.written g.K.Sink.faults g.K.Sink.stalls in
    listens_one c.now.result c.args.engine.now.patience (state_of c.args.engine.now []) c.args.engine.now.over (Err c.in-Err-hear.end) (state_of c.hear.new.engine [])
    (seen c.args.link.now) (seen c.hear.new.link) (held c.args.out.now) (held c.take.new.out) (g.C.Clock.told c.args.clock.now) (g.C.Clock.told c.now.new.self)
    (listened_end c.args.engine.now.patience c.now.result c.in-Err-hear.end (state_of c.args.engine.now []) (state_of c.hear.new.engine []) c.take.new.engine c.hear.new.engine
    (seen c.args.link.now) (seen c.take.new.link) (seen c.hear.new.link) (held c.args.out.now) (held c.take.new.out)
    c.in-Ok.ensures.gave c.in-Ok.ensures.patience c.in-Err-hear.ensures.running c.in-Err-hear.ensures.heard)
    (not_through c.in-Err-hear.end c.args.engine.now.over c.in-Err-hear.ensures.ends) c.now.ensures.told

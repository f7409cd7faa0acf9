use Rattle.smb_link.specs.Came.{seen_by}
use Rattle.fs_ahead.specs.Progress.{reads_by}
use Rattle.fs_top.specs.declared.line.Next.TheVariants as next
use Rattle.fs_top.specs.Printing.{held_by}
use Rattle.fs_top.proofs.Takings.{Lined, same_reads, goes_given, goes_passed, goes_listens, goes_memory}
use Rattle.fs_top.proofs.turn.turn.Goals as goal

pub returns-in-Err-clause-goes : goal.returns-in-Err-clause-goes
returns-in-Err-clause-goes g c =
    let e = c.in-Err.ensures in
    let left = g.S.Source.left in
    let faults = g.S.Source.faults in
    goes_memory c.in-Err.end c.args.engine.now c.next_line.new.engine
    (seen_by g.L.Link.story g.L.Link.connect_faults g.L.Link.cuts g.L.Link.quiets c.args.link.now) (held_by g.K.Sink.written g.K.Sink.faults g.K.Sink.stalls c.args.out.now)
    (reads_by left faults c.args.engine.now.ahead c.args.input.now) (left c.next_line.new.input) (faults c.next_line.new.input) (g.C.Clock.told c.args.clock.now)
    e.only c.requires.ready e.same e.over (λ some. (e.stays some).0)
    (λ some. same_reads left faults c.args.engine.now.ahead c.next_line.new.engine.ahead c.args.input.now c.next_line.new.input (e.stays some))

pub returns-in-Ok-Passed-clause-goes : goal.returns-in-Ok-Passed-clause-goes
returns-in-Ok-Passed-clause-goes g c =
    let e = c.in-Ok-Passed.ensures in
    let left = g.S.Source.left in
    let faults = g.S.Source.faults in
    let old = reads_by left faults c.args.engine.now.ahead c.args.input.now in
    let new = reads_by left faults c.next_line.new.engine.ahead c.next_line.new.input in
    let l : Lined next.Passed c.args.engine.now c.next_line.new.engine old new = record {
      ready = c.requires.ready;
      same = e.same;
      gives = rw c.in-Ok-Passed.field-0-is at e.gives;
      over = rw c.in-Ok-Passed.field-0-is at e.over;
      stays = λ some. same_reads left faults c.args.engine.now.ahead c.next_line.new.engine.ahead c.args.input.now c.next_line.new.input (e.stays some);
      script = rw c.in-Ok-Passed.field-0-is at e.script;
    } in
    goes_passed c.args.engine.now c.next_line.new.engine
    (seen_by g.L.Link.story g.L.Link.connect_faults g.L.Link.cuts g.L.Link.quiets c.args.link.now) (held_by g.K.Sink.written g.K.Sink.faults g.K.Sink.stalls c.args.out.now)
    old (left c.next_line.new.input) (faults c.next_line.new.input) (g.C.Clock.told c.args.clock.now) l

pub returns-in-Ok-Give-clause-goes : goal.returns-in-Ok-Give-clause-goes
returns-in-Ok-Give-clause-goes g c =
    let seen = seen_by g.L.Link.story g.L.Link.connect_faults g.L.Link.cuts g.L.Link.quiets in
    let held = held_by g.K.Sink.written g.K.Sink.faults g.K.Sink.stalls in
    let e = c.in-Ok-Give.ensures in
    let left = g.S.Source.left in
    let faults = g.S.Source.faults in
    let old = reads_by left faults c.args.engine.now.ahead c.args.input.now in
    let new = reads_by left faults c.next_line.new.engine.ahead c.next_line.new.input in
    let l : Lined (next.Give c.in-Ok-Give.given) c.args.engine.now c.next_line.new.engine old new = record {
      ready = c.requires.ready;
      same = e.same;
      gives = rw c.in-Ok-Give.field-0-is at e.gives;
      over = rw c.in-Ok-Give.field-0-is at e.over;
      stays = λ some. same_reads left faults c.args.engine.now.ahead c.next_line.new.engine.ahead c.args.input.now c.next_line.new.input (e.stays some);
      script = rw c.in-Ok-Give.field-0-is at e.script;
    } in
    goes_given c.in-Ok-Give.given c.take.result c.args.engine.now c.next_line.new.engine c.take.new.engine
    (seen c.args.link.now) (seen c.take.new.link) (held c.args.out.now) (held c.take.new.out)
    old (left c.next_line.new.input) (faults c.next_line.new.input) (g.C.Clock.told c.args.clock.now) l c.take.ensures.gave c.take.ensures.ends c.take.ensures.over c.take.ensures.ahead

pub returns-in-Ok-Nothing-clause-goes : goal.returns-in-Ok-Nothing-clause-goes
returns-in-Ok-Nothing-clause-goes g c =
    let seen = seen_by g.L.Link.story g.L.Link.connect_faults g.L.Link.cuts g.L.Link.quiets in
    let held = held_by g.K.Sink.written g.K.Sink.faults g.K.Sink.stalls in
    let e = c.in-Ok-Nothing.ensures in
    let left = g.S.Source.left in
    let faults = g.S.Source.faults in
    let old = reads_by left faults c.args.engine.now.ahead c.args.input.now in
    let new = reads_by left faults c.next_line.new.engine.ahead c.next_line.new.input in
    let l : Lined next.Nothing c.args.engine.now c.next_line.new.engine old new = record {
      ready = c.requires.ready;
      same = e.same;
      gives = rw c.in-Ok-Nothing.field-0-is at e.gives;
      over = rw c.in-Ok-Nothing.field-0-is at e.over;
      stays = λ some. same_reads left faults c.args.engine.now.ahead c.next_line.new.engine.ahead c.args.input.now c.next_line.new.input (e.stays some);
      script = rw c.in-Ok-Nothing.field-0-is at e.script;
    } in
    goes_listens c.listen.result c.args.engine.now c.next_line.new.engine c.listen.new.engine
    (seen c.args.link.now) (seen c.listen.new.link) (held c.args.out.now) (held c.listen.new.out)
    old (left c.next_line.new.input) (faults c.next_line.new.input) (g.C.Clock.told c.args.clock.now) (g.C.Clock.told c.listen.new.clock) l c.listen.ensures.listens c.listen.ensures.ahead

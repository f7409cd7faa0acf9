use Rattle.std.proofs.Common.{refl, sym, ◌∙◌}
use Rattle.smb_link.specs.Came.{seen_by}
use Rattle.fs_top.specs.Printing.{held_by}
use Rattle.fs_top.proofs.Outputs.{carrying_none, carrying_more, carried_left, carried_stop, keeping_none, keeping_more, all_more, stop_over, left_over}
use Rattle.fs_top.proofs.output.carry_out.Goals as goal

pub loop-output-init : goal.loop-output-init
loop-output-init g c = record {
  so_far = carrying_none c.args.engine.now.core.outs c.args.engine.now.running (seen_by g.L.Link.story g.L.Link.connect_faults g.L.Link.cuts g.L.Link.quiets c.args.link.now)
      (held_by g.K.Sink.written g.K.Sink.faults g.K.Sink.stalls c.args.out.now);
  keeps = keeping_none c.args.engine.now.core;
  rest = record { ahead = refl; over = refl; frames = refl; received = refl; silences = refl; patience = refl };
  places = (refl, refl);
}

pub returns-then-leaves-clause-carried : goal.returns-then-leaves-clause-carried
returns-then-leaves-clause-carried g c =
    let seen = seen_by g.L.Link.story g.L.Link.connect_faults g.L.Link.cuts g.L.Link.quiets in
    let held = held_by g.K.Sink.written g.K.Sink.faults g.K.Sink.stalls in
    carried_left c.args.engine.now.core.outs c.loop-output.engine.core.outs c.pop.new.self.outs c.in-Some.output c.args.engine.now.running c.loop-output.engine.running c.loop-output.engine.over c.end_by.result
    (seen c.args.link.now) (seen c.loop-output.link) (held c.args.out.now) (held c.loop-output.out)
    c.loop-output.invariant.so_far c.in-Some.ensures.some (sym c.leaves.ensures ∙ c.if-leaves.true) c.end_by.ensures

pub returns-then-leaves-clause-ends : goal.returns-then-leaves-clause-ends
returns-then-leaves-clause-ends g c =
    left_over c.end_by.result c.args.engine.now.over c.loop-output.engine.over c.loop-output.invariant.rest.over c.end_by.ensures

pub returns-in-Err-clause-ends : goal.returns-in-Err-clause-ends
returns-in-Err-clause-ends g c = stop_over c.in-Some.output c.in-Err.end c.args.engine.now.over c.in-Err.ensures.why

pub returns-in-Err-clause-places : goal.returns-in-Err-clause-places
returns-in-Err-clause-places g c =
    (c.in-Err.ensures.places.0 ∙ c.loop-output.invariant.places.0, c.in-Err.ensures.places.1 ∙ c.loop-output.invariant.places.1)

pub returns-in-Err-clause-carried : goal.returns-in-Err-clause-carried
returns-in-Err-clause-carried g c =
    let seen = seen_by g.L.Link.story g.L.Link.connect_faults g.L.Link.cuts g.L.Link.quiets in
    let held = held_by g.K.Sink.written g.K.Sink.faults g.K.Sink.stalls in
    carried_stop c.args.engine.now.core.outs c.loop-output.engine.core.outs c.pop.new.self.outs c.in-Some.output c.args.engine.now.running c.loop-output.engine.running c.carry.new.running c.in-Err.end
    (seen c.args.link.now) (seen c.loop-output.link) (seen c.carry.new.link) (held c.args.out.now) (held c.loop-output.out) (held c.carry.new.out)
    c.loop-output.invariant.so_far c.in-Some.ensures.some c.in-Err.ensures.running c.in-Err.ensures.why c.in-Err.ensures.came c.in-Err.ensures.printed

pub loop-output-preserved : goal.loop-output-preserved
loop-output-preserved g c =
    let seen = seen_by g.L.Link.story g.L.Link.connect_faults g.L.Link.cuts g.L.Link.quiets in
    let held = held_by g.K.Sink.written g.K.Sink.faults g.K.Sink.stalls in
    record {
      so_far = carrying_more c.args.engine.now.core.outs c.loop-output.engine.core.outs c.pop.new.self.outs c.in-Some.output c.args.engine.now.running c.loop-output.engine.running c.carry.new.running
          (seen c.args.link.now) (seen c.loop-output.link) (seen c.carry.new.link) (held c.args.out.now) (held c.loop-output.out) (held c.carry.new.out)
          c.loop-output.invariant.so_far c.in-Some.ensures.some (sym c.leaves.ensures ∙ c.if-leaves.false) c.in-Ok.ensures.came c.in-Ok.ensures.printed c.in-Ok.ensures.running;
      keeps = keeping_more c.args.engine.now.core c.loop-output.engine.core c.pop.new.self c.loop-output.invariant.keeps c.in-Some.ensures.kept c.in-Some.ensures.setting;
      rest = all_more c.args.engine.now c.loop-output.engine _ c.loop-output.invariant.rest refl refl refl refl refl refl;
      places = (c.in-Ok.ensures.places.0 ∙ c.loop-output.invariant.places.0, c.in-Ok.ensures.places.1 ∙ c.loop-output.invariant.places.1);
    }

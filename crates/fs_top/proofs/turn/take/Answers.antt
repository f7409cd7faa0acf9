use Rattle.smb_link.specs.Came.{seen_by}
use Rattle.fs_top.specs.Printing.{held_by}
use Rattle.std.proofs.Common.{refl, []}
use Rattle.fs_top.specs.Steps.{state_of}
use Rattle.fs_top.proofs.Runs.{Took, took_gave, took_ends, took_ready, ran_stop, stop_over}
use Rattle.fs_top.proofs.turn.take.Goals as goal

pub returns-in-Ok : goal.returns-in-Ok
returns-in-Ok g c =
    let seen = seen_by g.L.Link.story g.L.Link.connect_faults g.L.Link.cuts g.L.Link.quiets in
    let held = held_by g.K.Sink.written g.K.Sink.faults g.K.Sink.stalls in
    let took : Took c.args.input c.args.engine.now.core c.event.new.self = record { goes = c.in-Ok.ensures.goes; stays = c.in-Ok.ensures.stays; lives = c.in-Ok.ensures.lives } in
    let e = c.carry_out.ensures in
    record {
      gave = took_gave c.carry_out.result c.args.input c.args.engine.now c.carry_out.new.engine c.event.new.self (seen c.args.link.now) (seen c.carry_out.new.link) (held c.args.out.now) (held c.carry_out.new.out)
          c.requires.ready took e.carried e.core e.rest;
      ends = took_ends c.carry_out.result c.args.input c.args.engine.now c.carry_out.new.engine (state_of c.carry_out.new.engine []) c.event.new.self (seen c.args.link.now) (seen c.carry_out.new.link)
          (held c.args.out.now) (held c.carry_out.new.out) refl c.requires.ready took e.carried;
      ready = took_ready c.carry_out.result c.args.input c.args.engine.now c.carry_out.new.engine c.event.new.self c.requires.ready took e.core e.rest;
      patience = e.rest.patience;
      ahead = (e.rest.ahead, e.rest.over);
      over = e.ends;
      places = e.places;
    }

pub returns-in-Err : goal.returns-in-Err
returns-in-Err g c =
    let seen = seen_by g.L.Link.story g.L.Link.connect_faults g.L.Link.cuts g.L.Link.quiets in
    let held = held_by g.K.Sink.written g.K.Sink.faults g.K.Sink.stalls in
    record {
      gave = tt;
      ends = ran_stop c.args.input c.in-Err.fault c.of.result c.args.engine.now _ (seen c.args.link.now) (held c.args.out.now) refl c.requires.ready
          c.in-Err.ensures.why c.of.ensures;
      ready = tt;
      patience = refl;
      ahead = (refl, refl);
      over = stop_over c.in-Err.fault c.args.engine.now.received c.of.result c.args.engine.now.over c.of.ensures;
      places = (refl, refl);
    }

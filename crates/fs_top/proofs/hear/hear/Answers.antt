use Rattle.std.proofs.Common.{[], ◌∷◌, take, length-take, refl, inl, arith}
use Rattle.smb_link.specs.declared.event.Event.TheVariants as event
use Rattle.smb_link.specs.declared.faults.Got.TheVariants as got
use Rattle.smb_link.specs.Came.{seen_by}
use Rattle.smb_link.proofs.CameLaws.{came_receive}
use Rattle.fs_core.specs.Parts.{has_flight}
use Rattle.fs_top.proofs.Bytes.{partial_lacks, heard_front, front_short}
use Rattle.fs_top.proofs.Heard.{ready_bytes, heard_quiet, ready_quiet}
use Rattle.fs_top.proofs.hear.hear.Goals as goal

pub receive-requires : goal.receive-requires
receive-requires g c =
    let some = partial_lacks c.args.engine.now.frames c.requires.ready.partial in
    let most = length-take c.min-most.result c.args.engine.now.room in
    omega (arith, c.min-most.ensures, c.lacks.ensures)

pub take_in-requires : goal.take_in-requires
take_in-requires g c = record {
  partial = c.requires.ready.partial;
  room = front_short c.in-Bytes.n c.min-most.result _ _ c.args.engine.now.room c.in-Bytes.ensures.bytes.1 (omega (arith, c.min-most.ensures, c.lacks.ensures));
  few = c.requires.ready.few;
}

pub returns-in-Bytes-clause-heard : goal.returns-in-Bytes-clause-heard
returns-in-Bytes-clause-heard g c =
    let seen = seen_by g.L.Link.story g.L.Link.connect_faults g.L.Link.cuts g.L.Link.quiets in
    let e = c.in-Bytes.ensures in
    record {
      heard = event.Got (take c.in-Bytes.n c.receive.new.buf) ∷ [];
      one = tt;
      came = came_receive (seen c.args.link.now) (seen c.receive.new.self) c.receive.new.buf (got.Bytes c.in-Bytes.n) e.story e.faults e.cuts e.quiets;
      to = heard_front c.args.engine.now.patience c.in-Bytes.n (has_flight c.args.engine.now.core.kept.flights) c.take_in.result c.args.engine.now _ c.receive.new.buf _ c.requires.ready.few
          (omega (arith, e.bytes.1, c.receive.auto.buf)) c.take_in.ensures.taken refl refl refl;
    }

pub returns-in-Bytes-clause-ready : goal.returns-in-Bytes-clause-ready
returns-in-Bytes-clause-ready g c = ready_bytes c.take_in.result c.args.engine.now _ _ c.requires.ready c.take_in.ensures.taken refl refl refl refl refl

pub returns-in-Quiet-clause-heard : goal.returns-in-Quiet-clause-heard
returns-in-Quiet-clause-heard g c =
    let seen = seen_by g.L.Link.story g.L.Link.connect_faults g.L.Link.cuts g.L.Link.quiets in
    let e = c.in-Quiet.ensures in
    record {
      heard = event.Quiet ∷ [];
      one = tt;
      came = came_receive (seen c.args.link.now) (seen c.receive.new.self) c.receive.new.buf got.Quiet e.story e.faults e.cuts e.quiets;
      to = heard_quiet c.silent.result c.args.engine.now _ c.unanswered.result c.requires.ready.few c.unanswered.ensures c.silent.ensures.counted c.silent.ensures.borne c.silent.ensures.end refl refl refl refl;
    }

pub returns-in-Quiet-clause-ready : goal.returns-in-Quiet-clause-ready
returns-in-Quiet-clause-ready g c = ready_quiet c.silent.result c.args.engine.now _ c.requires.ready c.silent.ensures.borne refl refl refl refl refl refl

pub returns-in-Closed-clause-heard : goal.returns-in-Closed-clause-heard
returns-in-Closed-clause-heard g c =
    let seen = seen_by g.L.Link.story g.L.Link.connect_faults g.L.Link.cuts g.L.Link.quiets in
    let e = c.in-Closed.ensures in
    record {
      heard = event.Cut ∷ [];
      one = tt;
      came = came_receive (seen c.args.link.now) (seen c.receive.new.self) c.receive.new.buf got.Closed e.story e.faults e.cuts e.quiets;
      to = (inl refl, c.requires.ready.few);
    }

pub returns-in-NoMemory-clause-heard : goal.returns-in-NoMemory-clause-heard
returns-in-NoMemory-clause-heard g c =
    let seen = seen_by g.L.Link.story g.L.Link.connect_faults g.L.Link.cuts g.L.Link.quiets in
    let e = c.in-NoMemory.ensures in
    record {
      heard = [];
      one = tt;
      came = came_receive (seen c.args.link.now) (seen c.receive.new.self) c.receive.new.buf got.NoMemory e.story e.faults e.cuts e.quiets;
      to = (tt, tt);
    }

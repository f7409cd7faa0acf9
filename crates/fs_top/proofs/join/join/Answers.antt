use Rattle.std.proofs.Common.{◌≡◌, inl, inr, refl, false, Ok, Err, subst, arith}
use Rattle.smb_link.specs.declared.faults.LinkFail.{LinkFail}
use Rattle.smb_link.specs.Story.{StandsAfterConnect, connect_events}
use Rattle.smb_link.specs.Came.{seen_by, Came}
use Rattle.smb_link.proofs.CameLaws.{came_connect}
use Rattle.smb_link.proofs.OnceLaws.{went_none, went_then, went_connect}
use Rattle.fs_top.proofs.Joining.{tried_none, tried_more, tried_joined, tried_memory, tried_all, cut_by, cut_all}
use Rattle.fs_top.proofs.join.join.Goals as goal

pub loop-tried-init : goal.loop-tried-init
loop-tried-init g c = record {
  tried = tried_none (g.L.Link.stands c.args.link.now) (seen_by g.L.Link.story g.L.Link.connect_faults g.L.Link.cuts g.L.Link.quiets c.args.link.now);
  places = went_none (record { host = c.args.host.now; port = c.args.port }) (g.L.Link.places c.args.link.now);
  own_cuts = inl (refl, refl);
}

pub returns-in-Ok : goal.returns-in-Ok
returns-in-Ok g c =
    let seen = seen_by g.L.Link.story g.L.Link.connect_faults g.L.Link.cuts g.L.Link.quiets in
    let stands = g.L.Link.stands in
    let e = c.in-Ok.ensures in
    record {
      joins = tried_joined c.args.tries (stands c.args.link.now) (stands c.loop-tried.link) (stands c.connect.new.self) c.loop-tried._tried (seen c.args.link.now) (seen c.loop-tried.link) (seen c.connect.new.self)
          c.loop-tried.invariant.tried c.loop-tried-test.true
          (came_connect (seen c.loop-tried.link) (seen c.connect.new.self) (stands c.loop-tried.link) (stands c.connect.new.self) (Ok tt) e.story e.faults e.cuts e.quiets);
      places = went_then (record { host = c.args.host.now; port = c.args.port }) (g.L.Link.places c.args.link.now) (g.L.Link.places c.loop-tried.link) (g.L.Link.places c.connect.new.self)
          c.loop-tried.invariant.places (went_connect (record { host = c.args.host.now; port = c.args.port }) (Ok tt) (g.L.Link.places c.loop-tried.link) (g.L.Link.places c.connect.new.self) e.places);
      own_cuts = cut_by (stands c.args.link.now) (stands c.loop-tried.link) (stands c.connect.new.self) (Ok tt) (g.L.Link.own_cuts c.args.link.now) (g.L.Link.own_cuts c.loop-tried.link)
          (g.L.Link.own_cuts c.connect.new.self) c.loop-tried.invariant.own_cuts e.own_cuts;
    }

pub returns-in-Err-NoMemory : goal.returns-in-Err-NoMemory
returns-in-Err-NoMemory g c =
    let seen = seen_by g.L.Link.story g.L.Link.connect_faults g.L.Link.cuts g.L.Link.quiets in
    let stands = g.L.Link.stands in
    let e = c.in-Err-NoMemory.ensures in
    record {
      joins = tried_memory c.args.tries (stands c.args.link.now) (stands c.loop-tried.link) (stands c.connect.new.self) c.loop-tried._tried (seen c.args.link.now) (seen c.loop-tried.link) (seen c.connect.new.self)
          c.loop-tried.invariant.tried
          (subst (λ (f : LinkFail). Came (connect_events (stands c.loop-tried.link) (stands c.connect.new.self) (Err f)) (seen c.loop-tried.link) (seen c.connect.new.self)) c.in-Err-NoMemory.field-0-is
          (came_connect (seen c.loop-tried.link) (seen c.connect.new.self) (stands c.loop-tried.link) (stands c.connect.new.self) (Err c.in-Err-NoMemory.field-0) e.story e.faults e.cuts e.quiets));
      places = went_then (record { host = c.args.host.now; port = c.args.port }) (g.L.Link.places c.args.link.now) (g.L.Link.places c.loop-tried.link) (g.L.Link.places c.connect.new.self)
          c.loop-tried.invariant.places (went_connect (record { host = c.args.host.now; port = c.args.port }) (Err c.in-Err-NoMemory.field-0) (g.L.Link.places c.loop-tried.link) (g.L.Link.places c.connect.new.self) e.places);
      own_cuts = cut_by (stands c.args.link.now) (stands c.loop-tried.link) (stands c.connect.new.self) (Err c.in-Err-NoMemory.field-0) (g.L.Link.own_cuts c.args.link.now) (g.L.Link.own_cuts c.loop-tried.link)
          (g.L.Link.own_cuts c.connect.new.self) c.loop-tried.invariant.own_cuts e.own_cuts;
    }

pub loop-tried-preserved : goal.loop-tried-preserved
loop-tried-preserved g c =
    let seen = seen_by g.L.Link.story g.L.Link.connect_faults g.L.Link.cuts g.L.Link.quiets in
    let stands = g.L.Link.stands in
    let e = c.in-Err-Failed.ensures in
    let none : stands c.connect.new.self ≡ false =
    subst (λ (f : LinkFail). StandsAfterConnect (stands c.loop-tried.link) (stands c.connect.new.self) (Err f)) c.in-Err-Failed.field-0-is e.stands in
    record {
      tried = tried_more (stands c.args.link.now) (stands c.loop-tried.link) (stands c.connect.new.self) c.loop-tried._tried (seen c.args.link.now) (seen c.loop-tried.link) (seen c.connect.new.self)
          c.loop-tried.invariant.tried
          (subst (λ (f : LinkFail). Came (connect_events (stands c.loop-tried.link) (stands c.connect.new.self) (Err f)) (seen c.loop-tried.link) (seen c.connect.new.self)) c.in-Err-Failed.field-0-is
          (came_connect (seen c.loop-tried.link) (seen c.connect.new.self) (stands c.loop-tried.link) (stands c.connect.new.self) (Err c.in-Err-Failed.field-0) e.story e.faults e.cuts e.quiets))
          none;
      places = went_then (record { host = c.args.host.now; port = c.args.port }) (g.L.Link.places c.args.link.now) (g.L.Link.places c.loop-tried.link) (g.L.Link.places c.connect.new.self)
          c.loop-tried.invariant.places (went_connect (record { host = c.args.host.now; port = c.args.port }) (Err c.in-Err-Failed.field-0) (g.L.Link.places c.loop-tried.link) (g.L.Link.places c.connect.new.self) e.places);
      own_cuts = inr (
        none,
        cut_by (stands c.args.link.now) (stands c.loop-tried.link) (stands c.connect.new.self) (Err c.in-Err-Failed.field-0) (g.L.Link.own_cuts c.args.link.now) (g.L.Link.own_cuts c.loop-tried.link)
            (g.L.Link.own_cuts c.connect.new.self) c.loop-tried.invariant.own_cuts e.own_cuts,
      );
    }

pub returns : goal.returns
returns g c =
    let seen = seen_by g.L.Link.story g.L.Link.connect_faults g.L.Link.cuts g.L.Link.quiets in
    record {
      joins = tried_all c.args.tries (g.L.Link.stands c.args.link.now) (g.L.Link.stands c.loop-tried.link) c.loop-tried._tried (seen c.args.link.now) (seen c.loop-tried.link)
          c.loop-tried.invariant.tried (omega arith) c.requires.some;
      places = c.loop-tried.invariant.places;
      own_cuts = cut_all (g.L.Link.stands c.args.link.now) (g.L.Link.stands c.loop-tried.link) (g.L.Link.own_cuts c.args.link.now) (g.L.Link.own_cuts c.loop-tried.link) c.loop-tried.invariant.own_cuts;
    }

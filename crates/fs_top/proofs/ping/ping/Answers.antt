use Rattle.std.proofs.Common.{Ok, Err, [], ◌∷◌, ◌++◌, inl, inr, refl, ◌∙◌, subst}
use Rattle.smb_link.specs.Story.{connect_events, send_events}
use Rattle.smb_link.specs.declared.event.Event.TheVariants.{NotJoined}
use Rattle.smb_link.specs.declared.faults.LinkFail.{LinkFail}
use Rattle.smb_link.specs.Came.{seen_by, Came}
use Rattle.fs_top.specs.Connects.{opening}
use Rattle.fs_top.proofs.Pings.PingSent.{asked_heard, asked_cut}
use Rattle.smb_link.proofs.OnceLaws.{went_connect}
use Rattle.fs_top.proofs.Pings.Places.{cut_once, stays_gone, stays_cut}
use Rattle.smb_link.proofs.CameLaws.{came_then, came_connect, came_send}
use Rattle.fs_top.proofs.ping.ping.Goals as goal

pub returns-in-Err-Failed : goal.returns-in-Err-Failed
returns-in-Err-Failed g c = record {
  ends =
      let seen = seen_by g.L.Link.story g.L.Link.connect_faults g.L.Link.cuts g.L.Link.quiets in
      let stood = g.L.Link.stands c.args.link.now in
      let stands = g.L.Link.stands c.connect.new.self in
      let why = c.in-Err-Failed.field-0 in
      let j = c.in-Err-Failed.ensures in
      let join = came_connect (seen c.args.link.now) (seen c.connect.new.self) stood stands (Err why) j.story j.faults j.cuts j.quiets in
      let failed = subst (λ (f : LinkFail). Came (connect_events stood stands (Err f)) (seen c.args.link.now) (seen c.connect.new.self)) c.in-Err-Failed.field-0-is join in
      (opening stood ++ NotJoined ∷ [], failed, inr refl);
  places = went_connect (record { host = c.args.host.now; port = c.args.port }) (Err c.in-Err-Failed.field-0) (g.L.Link.places c.args.link.now) (g.L.Link.places c.connect.new.self) c.in-Err-Failed.ensures.places;
  own_cuts = cut_once (g.L.Link.stands c.args.link.now) (g.L.Link.stands c.connect.new.self) (Err c.in-Err-Failed.field-0) (g.L.Link.own_cuts c.args.link.now) (g.L.Link.own_cuts c.connect.new.self) c.in-Err-Failed.ensures.own_cuts;
}

pub returns-in-Err-NoMemory : goal.returns-in-Err-NoMemory
returns-in-Err-NoMemory g c = record {
  ends =
      let seen = seen_by g.L.Link.story g.L.Link.connect_faults g.L.Link.cuts g.L.Link.quiets in
      let stood = g.L.Link.stands c.args.link.now in
      let stands = g.L.Link.stands c.connect.new.self in
      let why = c.in-Err-NoMemory.field-0 in
      let j = c.in-Err-NoMemory.ensures in
      (connect_events stood stands (Err why), came_connect (seen c.args.link.now) (seen c.connect.new.self) stood stands (Err why) j.story j.faults j.cuts j.quiets, inl refl);
  places = went_connect (record { host = c.args.host.now; port = c.args.port }) (Err c.in-Err-NoMemory.field-0) (g.L.Link.places c.args.link.now) (g.L.Link.places c.connect.new.self) c.in-Err-NoMemory.ensures.places;
  own_cuts = cut_once (g.L.Link.stands c.args.link.now) (g.L.Link.stands c.connect.new.self) (Err c.in-Err-NoMemory.field-0) (g.L.Link.own_cuts c.args.link.now) (g.L.Link.own_cuts c.connect.new.self) c.in-Err-NoMemory.ensures.own_cuts;
}

pub returns-in-Err-NoMemory-send : goal.returns-in-Err-NoMemory-send
returns-in-Err-NoMemory-send g c = record {
  ends =
      let seen = seen_by g.L.Link.story g.L.Link.connect_faults g.L.Link.cuts g.L.Link.quiets in
      let stood = g.L.Link.stands c.args.link.now in
      let stands = g.L.Link.stands c.connect.new.self in
      let frame = c.as_slice.result.now in
      let why = c.in-Err-NoMemory-send.field-0 in
      let j = c.in-Ok-connect.ensures in
      let s = c.in-Err-NoMemory-send.ensures in
      let join = came_connect (seen c.args.link.now) (seen c.connect.new.self) stood stands (Ok tt) j.story j.faults j.cuts j.quiets in
      let send = came_send (seen c.connect.new.self) (seen c.send.new.self) frame (Err why) s.story s.faults s.cuts s.quiets in (
        connect_events stood stands (Ok tt) ++ send_events frame (Err why),
        came_then (connect_events stood stands (Ok tt)) (send_events frame (Err why)) (seen c.args.link.now) (seen c.connect.new.self) (seen c.send.new.self) join send,
        inl refl,
      );
  places = stays_gone (record { host = c.args.host.now; port = c.args.port }) (g.L.Link.places c.args.link.now) (g.L.Link.places c.connect.new.self) (g.L.Link.places c.send.new.self) (went_connect (record { host = c.args.host.now; port = c.args.port }) (Ok tt) (g.L.Link.places c.args.link.now) (g.L.Link.places c.connect.new.self) c.in-Ok-connect.ensures.places) (c.in-Err-NoMemory-send.ensures.places);
  own_cuts = stays_cut (g.L.Link.stands c.args.link.now) (g.L.Link.own_cuts c.args.link.now) (g.L.Link.own_cuts c.connect.new.self) (g.L.Link.own_cuts c.send.new.self) (cut_once (g.L.Link.stands c.args.link.now) (g.L.Link.stands c.connect.new.self) (Ok tt) (g.L.Link.own_cuts c.args.link.now) (g.L.Link.own_cuts c.connect.new.self) c.in-Ok-connect.ensures.own_cuts) (c.in-Err-NoMemory-send.ensures.own_cuts);
}

pub returns-in-Err-Failed-send : goal.returns-in-Err-Failed-send
returns-in-Err-Failed-send g c = record {
  ends =
      let seen = seen_by g.L.Link.story g.L.Link.connect_faults g.L.Link.cuts g.L.Link.quiets in
      let frame = c.as_slice.result.now in
      let why = c.in-Err-Failed-send.field-0 in
      let j = c.in-Ok-connect.ensures in
      let s = c.in-Err-Failed-send.ensures in
      let join = came_connect (seen c.args.link.now) (seen c.connect.new.self) (g.L.Link.stands c.args.link.now) (g.L.Link.stands c.connect.new.self) (Ok tt) j.story j.faults j.cuts j.quiets in
      let send = came_send (seen c.connect.new.self) (seen c.send.new.self) frame (Err why) s.story s.faults s.cuts s.quiets in
      let failed = subst (λ (f : LinkFail). Came (send_events frame (Err f)) (seen c.connect.new.self) (seen c.send.new.self)) c.in-Err-Failed-send.field-0-is send in
      asked_cut (g.L.Link.stands c.args.link.now) c.args.seed frame (seen c.args.link.now) (seen c.connect.new.self) (seen c.send.new.self) (c.as_slice.ensures.value ∙ c.in-Ok.ensures) join failed;
  places = stays_gone (record { host = c.args.host.now; port = c.args.port }) (g.L.Link.places c.args.link.now) (g.L.Link.places c.connect.new.self) (g.L.Link.places c.send.new.self) (went_connect (record { host = c.args.host.now; port = c.args.port }) (Ok tt) (g.L.Link.places c.args.link.now) (g.L.Link.places c.connect.new.self) c.in-Ok-connect.ensures.places) (c.in-Err-Failed-send.ensures.places);
  own_cuts = stays_cut (g.L.Link.stands c.args.link.now) (g.L.Link.own_cuts c.args.link.now) (g.L.Link.own_cuts c.connect.new.self) (g.L.Link.own_cuts c.send.new.self) (cut_once (g.L.Link.stands c.args.link.now) (g.L.Link.stands c.connect.new.self) (Ok tt) (g.L.Link.own_cuts c.args.link.now) (g.L.Link.own_cuts c.connect.new.self) c.in-Ok-connect.ensures.own_cuts) (c.in-Err-Failed-send.ensures.own_cuts);
}

pub returns : goal.returns
returns g c = record {
  ends =
      let seen = seen_by g.L.Link.story g.L.Link.connect_faults g.L.Link.cuts g.L.Link.quiets in
      let frame = c.as_slice.result.now in
      let j = c.in-Ok-connect.ensures in
      let s = c.in-Ok-send.ensures in
      let join = came_connect (seen c.args.link.now) (seen c.connect.new.self) (g.L.Link.stands c.args.link.now) (g.L.Link.stands c.connect.new.self) (Ok tt) j.story j.faults j.cuts j.quiets in
      let send = came_send (seen c.connect.new.self) (seen c.send.new.self) frame (Ok tt) s.story s.faults s.cuts s.quiets in
      asked_heard (g.L.Link.stands c.args.link.now) c.args.seed frame (seen c.args.link.now) (seen c.connect.new.self) (seen c.send.new.self) (seen c.listen.new.link) c.listen.result (c.as_slice.ensures.value ∙ c.in-Ok.ensures) join send c.listen.ensures.heard c.listen.ensures.ends_wait;
  places = stays_gone (record { host = c.args.host.now; port = c.args.port }) (g.L.Link.places c.args.link.now) (g.L.Link.places c.connect.new.self) (g.L.Link.places c.listen.new.link) (went_connect (record { host = c.args.host.now; port = c.args.port }) (Ok tt) (g.L.Link.places c.args.link.now) (g.L.Link.places c.connect.new.self) c.in-Ok-connect.ensures.places) (c.listen.ensures.places.0 ∙ c.in-Ok-send.ensures.places);
  own_cuts = stays_cut (g.L.Link.stands c.args.link.now) (g.L.Link.own_cuts c.args.link.now) (g.L.Link.own_cuts c.connect.new.self) (g.L.Link.own_cuts c.listen.new.link) (cut_once (g.L.Link.stands c.args.link.now) (g.L.Link.stands c.connect.new.self) (Ok tt) (g.L.Link.own_cuts c.args.link.now) (g.L.Link.own_cuts c.connect.new.self) c.in-Ok-connect.ensures.own_cuts) (c.listen.ensures.places.1 ∙ c.in-Ok-send.ensures.own_cuts);
}

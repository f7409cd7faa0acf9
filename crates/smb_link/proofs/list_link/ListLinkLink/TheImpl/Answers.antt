use Rattle.std.proofs.Common.{Some}
use Rattle.smb_link.proofs.CameLaws.{gains_by_connect_alone}
use Rattle.smb_link.proofs.list_link.ListLinkLink.TheImpl.Goals as goal

pub connect-tells : goal.connect-tells
connect-tells c = record {
  story = gains_by_connect_alone c.args.self.now.stands c.new.self.now.stands c.result (Some c.args.self.now.story) (Some c.new.self.now.story) c.ensures.story;
  stands = c.ensures.stands;
  faults = c.ensures.faults;
  cuts = c.ensures.cuts;
  own_cuts = c.ensures.own_cuts;
  quiets = c.ensures.quiets;
  places = c.ensures.places;
}

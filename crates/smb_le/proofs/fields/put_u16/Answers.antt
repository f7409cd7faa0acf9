use Rattle.std.proofs.Common.{◌+◌, ◌-◌, ◌∙◌, ap, arith}
use borrow.Rule.Slice.PartMut.{put_mid}
use Rattle.smb_le.proofs.NumberLaws.{overwritten-part}
use Rattle.smb_le.proofs.fields.put_u16.Goals as goal

pub returns : goal.returns
returns c =
    ap (put_mid c.args.at (c.args.at + 2 - c.args.at) c.args.b.now) c.write_u16.ensures
    ∙ overwritten-part 2 c.args.at (c.args.at + 2 - c.args.at) c.args.v c.args.b.now (omega arith) c.requires

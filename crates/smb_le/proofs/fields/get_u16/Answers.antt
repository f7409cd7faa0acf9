use Rattle.std.proofs.Common.{◌+◌, ◌-◌, ◌∙◌, arith}
use Rattle.smb_le.proofs.NumberLaws.{number_at-part}
use Rattle.smb_le.proofs.fields.get_u16.Goals as goal

pub returns : goal.returns
returns c = c.read_u16.ensures ∙ number_at-part 2 c.args.at (c.args.at + 2 - c.args.at) c.args.b.now (omega arith)

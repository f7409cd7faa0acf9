use Rattle.std.proofs.Common.{◌+◌, ◌-◌, ◌∙◌, arith}
use Rattle.smb_le.proofs.NumberLaws.{number_at-part}
use Rattle.smb_le.proofs.fields.get_u32.Goals as goal

pub returns : goal.returns
returns c = c.read_u32.ensures ∙ number_at-part 4 c.args.at (c.args.at + 4 - c.args.at) c.args.b.now (omega arith)

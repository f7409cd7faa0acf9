use Rattle.std.proofs.Common.{◌+◌, ◌-◌, ◌∙◌, arith}
use Rattle.smb_le.proofs.NumberLaws.{number_at-part}
use Rattle.smb_le.proofs.fields.get_u64.Goals as goal

pub returns : goal.returns
returns c = c.read_u64.ensures ∙ number_at-part 8 c.args.at (c.args.at + 8 - c.args.at) c.args.b.now (omega arith)

use Rattle.std.proofs.Common.{sym, ◌∙◌}
use Rattle.smb_info.proofs.EntryLaws.{listed}
use Rattle.smb_info.proofs.entries.Entries.new.Goals as goal

pub returns-else-is_empty-clause-chain : goal.returns-else-is_empty-clause-chain
returns-else-is_empty-clause-chain c = listed c.args.info.now (sym c.is_empty.ensures ∙ c.if-is_empty.false)

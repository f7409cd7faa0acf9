use Rattle.std.proofs.Common.{rules}
use Rattle.smb_chain.proofs.ChainLaws.{chain-nil}
use Rattle.smb_chain.proofs.builder.ChainBuilder.new.Goals as goal

pub invariant_of-result : goal.invariant_of-result
invariant_of-result c = rw (c.new.ensures.items, chain-nil) (search rules)

-- what is written and the chain of the messages to come are what was there and the whole chain
use Rattle.std.proofs.Common.{◌≡◌, ◌≤◌, ◌++◌, length, drop}
use Rattle.smb_head.specs.declared.first.TheConstants.{MAX_FRAME}
use Rattle.smb_chain.specs.Chain.{chain}
use Rattle.smb_chain.proofs.builder.put_messages.Given as goal

abbrev pub invariant-loop-i : goal.invariant-loop-i
invariant-loop-i l = record {
  written : l.out.items ++ chain (drop l.i l.messages) ≡ l.fn.out.items ++ chain l.messages;
  small : length (chain (drop l.i l.messages)) ≤ MAX_FRAME;
}

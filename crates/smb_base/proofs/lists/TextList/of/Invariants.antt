-- so far the texts up to the index are copied
use Rattle.std.proofs.Common.{◌≡◌, take}
use Rattle.smb_base.proofs.lists.TextList.of.Given as goal

abbrev pub invariant-loop-text : goal.invariant-loop-text
invariant-loop-text l = l.held.items ≡ take l.text-index l.texts

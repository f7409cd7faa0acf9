use Rattle.std.proofs.Common.{◌≡◌, ◌++◌, replicate}
use Rattle.smb_info.proofs.entries.pad.Given as goal

-- so many zero bytes are appended
abbrev pub invariant-loop : goal.invariant-loop
invariant-loop l = l.out.items ≡ l.fn.out.items ++ replicate l.counter 0

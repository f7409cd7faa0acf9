-- so far the names up to the index are written
use Rattle.std.proofs.Common.{◌≡◌, ◌++◌, take, string_bytes}
use Rattle.std.specs.List.{flat_map}
use Rattle.fs_script.specs.Answers.{entry_text}
use Rattle.fs_script.proofs.answer.put_entries.Given as goal

abbrev pub invariant-loop-entry : goal.invariant-loop-entry
invariant-loop-entry l = string_bytes l.out ≡ string_bytes l.fn.out ++ flat_map entry_text (take l.entry-index l.entries)

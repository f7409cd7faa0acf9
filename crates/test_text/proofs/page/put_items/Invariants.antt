-- so far the fields up to the index are written
use Rattle.std.proofs.Common.{◌≡◌, ◌++◌, take, string_bytes}
use Rattle.test_text.specs.Page.{item_lines}
use Rattle.test_text.proofs.page.put_items.Given as goal

abbrev pub invariant-loop-item : goal.invariant-loop-item
invariant-loop-item l = string_bytes l.out ≡ string_bytes l.fn.out ++ item_lines (take l.item-index l.items)

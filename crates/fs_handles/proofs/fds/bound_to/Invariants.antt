-- those up to the index are counted
use Rattle.std.proofs.Common.{◌≡◌, ◌≤◌, count_by, take}
use Rattle.fs_handles.specs.Numbers.{is_bound_to}
use Rattle.fs_handles.proofs.fds.bound_to.Given as goal

abbrev pub invariant-loop-number : goal.invariant-loop-number
invariant-loop-number l = (l.count ≤ l.number-index) × (l.count ≡ count_by (is_bound_to l.fn.description) (take l.number-index l.fn.numbers))

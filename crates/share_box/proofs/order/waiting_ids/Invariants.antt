-- the ids of those up to the index
use Rattle.std.proofs.Common.{◌≡◌, map, take, filter}
use Rattle.fs_plain.specs.World.{is_first_of_frame}
use Rattle.share_box.proofs.order.waiting_ids.Given as goal

abbrev pub invariant-loop-one : goal.invariant-loop-one
invariant-loop-one l = l.ids.items ≡ map (λ one. one.mid) (filter (λ one. is_first_of_frame l.sent one) (take l.one-index l.sent))

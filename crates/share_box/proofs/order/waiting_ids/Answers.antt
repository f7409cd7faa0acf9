use Rattle.std.proofs.Common.{◌∙◌, List, map, filter, ap}
use Rattle.std.proofs.lemmas.List.{take_all}
use Rattle.share_state.specs.declared.connection.Sent.{Sent}
use Rattle.fs_plain.specs.World.{is_first_of_frame}
use Rattle.share_box.specs.Order.{waiting_ids}
use Rattle.share_box.proofs.order.waiting_ids.Goals as goal

pub returns : goal.returns
unfolding waiting_ids
returns c =
    c.loop-one.invariant
    ∙ ap (λ (l : List Sent). map (λ one. one.mid) (filter (λ one. is_first_of_frame c.args.sent.now one) l)) (take_all c.loop-one.one-index c.args.sent.now c.loop-one-test.false)

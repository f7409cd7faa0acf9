use Rattle.std.proofs.Common.{arith, ◌≡◌, ◌∙◌, ◌+◌, ◌<◌, length, ◌++◌, [], ℕ, List, drop, ap, sym, refl}
use Rattle.std.proofs.lemmas.List.{at_drop_more, at_drop_all, append-nil}
use Rattle.std.specs.List.{concat}
use Rattle.smb_head.specs.Stream.{frames_in}
use Rattle.smb_head.proofs.FrameLaws.{first_of-nil}
use Rattle.smb_head.proofs.StreamLaws.{tells-more, tells-all, settled-partial, frames_in-sent}
use Rattle.smb_head.proofs.frames.frames_of.Goals as goal

pub loop-piece-init : goal.loop-piece-init
loop-piece-init c =
    rw (c.new-held.ensures, c.new-frames.ensures.items) record { told = refl; left = refl; settled = settled-partial [] first_of-nil }

pub loop-piece-preserved : goal.loop-piece-preserved
loop-piece-preserved c =
    let within : c.loop-piece.piece-index < length c.args.pieces.now = omega arith in
    tells-more c.loop-piece.frames.items c.take_whole.new.frames.items c.loop-piece.held c.feed.new.self c.take_whole.new.held c.piece-item.result
    (concat (drop (c.loop-piece.piece-index + 1) c.args.pieces.now)) (concat (drop c.loop-piece.piece-index c.args.pieces.now)) (concat c.args.pieces.now)
    c.loop-piece.invariant
    (at_drop_more concat c.args.pieces.now c.loop-piece.piece-index c.piece-item.result within
    ∙ ap (λ (l : List ℕ). l ++ concat (drop (c.loop-piece.piece-index + 1) c.args.pieces.now)) (sym c.piece-item.is))
    (c.in_ok-feed.ensures.ok ∙ ap (λ (l : List ℕ). c.loop-piece.held ++ l) c.as_slice.ensures)
    c.in_ok-take_whole.ensures.frames c.in_ok-take_whole.ensures.rest

pub returns-clause-sent : goal.returns-clause-sent
returns-clause-sent c = λ messages rest each partial is.
    let none : concat (drop c.loop-piece.piece-index c.args.pieces.now) ≡ [] = at_drop_all concat c.args.pieces.now c.loop-piece.piece-index (omega arith) in
    let t = rw none at c.loop-piece.invariant in
    (tells-all c.loop-piece.frames.items c.loop-piece.held (concat c.args.pieces.now) t).0
    ∙ ap frames_in is ∙ frames_in-sent messages rest each
    ∙ ap (λ (l : List (List ℕ)). messages ++ l) (settled-partial rest partial).no_frame ∙ append-nil messages

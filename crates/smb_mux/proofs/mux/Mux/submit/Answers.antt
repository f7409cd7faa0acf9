use Rattle.std.proofs.Common.{arith, ◌∙◌, List, ℕ, Ok, map, drop, length, ap}
use Rattle.smb_chain.specs.Chain.{parts_for}
use Rattle.smb_chain.specs.Parts.{parts_of}
use Rattle.smb_chain.proofs.ChainLaws.{parts_of-chain}
use Rattle.smb_mux.specs.Sending.{placed}
use Rattle.smb_mux.specs.InFlight.{InFlight}
use Rattle.smb_credit.specs.Window.{Ids, usable}
use Rattle.smb_mux.proofs.SendLaws.{costs-some, room-many, length-frame, length-placed}
use Rattle.smb_mux.proofs.mux.Mux.submit.Goals as goal

pub unreachable-requires-in_default-take : goal.unreachable-requires-in_default-take
unreachable-requires-in_default-take c =
    absurd (omega (arith, c.in_default-take.ensures.none.0, c.in-Some.ensures.some.0, costs-some c.args.requests.now c.requires.some, ap (λ (ids : Ids). length (usable ids)) c.copy.ensures))

pub overflow_cast-result : goal.overflow_cast-result
overflow_cast-result c = omega (arith, room-many c.args.requests.now, c.requires.room)

pub returns-clause-split_again : goal.returns-clause-split_again
returns-clause-split_again c =
    let ms = placed c.self.inside.window c.args.requests.now in
    ap (λ (b : List ℕ). parts_of (drop 4 b)) c.in_ok-frame.ensures
    ∙ parts_of-chain ms (omega (arith, length-frame c.self.inside.window c.args.requests.now, c.requires.room)) (omega (arith, length-placed c.self.inside.window c.args.requests.now, c.requires.some))
    ∙ ap (λ (s : InFlight). map (λ (part : List ℕ). Ok part) (parts_for (placed s.ids c.args.requests.now))) c.self.view_is

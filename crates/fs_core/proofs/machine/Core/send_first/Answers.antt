use Rattle.std.proofs.Common.{arith, ◌≤◌, ◌<◌, sym, subst, Bool, List, length}
use Rattle.smb_head.specs.declared.first.TheConstants.{MAX_FRAME}
use Rattle.smb_head.specs.declared.request.Request.{Request}
use Rattle.smb_mux.specs.Sending.{room_of}
use Rattle.fs_core.specs.Event.{Stops}
use Rattle.fs_core.specs.Going.{Tries}
use Rattle.fs_core.proofs.Composed.{sends_fly}
use Rattle.fs_core.proofs.MarkingGoing.{waiting_has_facts}
use Rattle.fs_core.proofs.SendingCalls.{chain_room}
use Rattle.fs_core.proofs.SendingParts.{chain_puts}
use Rattle.fs_core.proofs.machine.Core.send_first.Goals as goal

pub returns-in-Err-clause-err : goal.returns-in-Err-clause-err
returns-in-Err-clause-err c =
    subst (Stops c.args.self.now) (sym c.in-Err.ensures.none.0) (waiting_has_facts c.args.self.now c.args.number c.requires.waits c.in-Err.ensures.none.1)

pub try_send-requires-clause-room : goal.try_send-requires-clause-room
try_send-requires-clause-room c =
    let chain = c.in-Ok-chain_with.ensures.chain in
    subst (λ (l : List Request). room_of l ≤ MAX_FRAME) (sym chain.are) (chain_room c.in-Ok.facts chain.slot.stat.path chain.path)

pub returns-in-Ok-true-clause-puts : goal.returns-in-Ok-true-clause-puts
returns-in-Ok-true-clause-puts c =
    let chain = c.in-Ok-chain_with.ensures.chain in
    chain_puts c.args.self.now c.try_send.new.self c.args.number chain.slot c.in-Ok.facts c.in-Ok-chain_with.requests c.in-Ok.ensures.facts chain.found
    c.requires.waits c.requires.opening chain.path chain.are
    (subst (λ (b : Bool). Tries c.args.number c.in-Ok-chain_with.requests b c.args.self.now c.try_send.new.self) c.in-Ok-true.field-0-test c.in-Ok-true.ensures.tries)

pub returns-in-Ok-true-clause-flies : goal.returns-in-Ok-true-clause-flies
returns-in-Ok-true-clause-flies c =
    let chain = c.in-Ok-chain_with.ensures.chain in
    sends_fly c.args.self.now c.try_send.new.self c.args.number c.in-Ok-chain_with.requests
    (subst (λ (l : List Request). 0 < length l) (sym chain.are) (omega arith))
    (subst (λ (b : Bool). Tries c.args.number c.in-Ok-chain_with.requests b c.args.self.now c.try_send.new.self) c.in-Ok-true.field-0-test c.in-Ok-true.ensures.tries)
